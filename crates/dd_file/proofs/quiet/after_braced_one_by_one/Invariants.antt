use Rattle.std.proofs.Common.{◌≡◌, length}
use Rattle.dd_file.specs.declared.mode.Mode.TheVariants.{Braced}
use Rattle.dd_file.specs.Quiet.{after_calm}
use Rattle.dd_file.proofs.quiet.after_braced_one_by_one.Given as goal

-- what is left ends up as the whole text does
abbrev pub invariant-loop-rest : goal.invariant-loop-rest
invariant-loop-rest l = after_calm Braced l.rest ≡ after_calm Braced l.fn.text

abbrev pub decreases-loop-rest : goal.decreases-loop-rest
decreases-loop-rest l = length l.rest
