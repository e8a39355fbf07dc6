use Rattle.std.proofs.Common.{◌≡◌, length}
use Rattle.dd_file.specs.Marks.{after_blanks}
use Rattle.dd_file.proofs.mark.after_blanks.Given as goal

-- what is left ends up as the whole text does
abbrev pub invariant-loop-rest : goal.invariant-loop-rest
invariant-loop-rest l = after_blanks l.rest ≡ after_blanks l.fn.text

abbrev pub decreases-loop-rest : goal.decreases-loop-rest
decreases-loop-rest l = length l.rest
