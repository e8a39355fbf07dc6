use Rattle.std.proofs.Common.{◌≡◌, length}
use Rattle.dd_file.specs.declared.mode.Mode.TheVariants.{Plain}
use Rattle.dd_file.specs.Quiet.{after_calm}
use Rattle.dd_file.proofs.quiet.after_plain_one_by_one.Given as goal

-- what is left ends up as the whole text does
abbrev pub invariant-loop-rest : goal.invariant-loop-rest
invariant-loop-rest l = after_calm Plain l.rest ≡ after_calm Plain l.fn.text

abbrev pub decreases-loop-rest : goal.decreases-loop-rest
decreases-loop-rest l = length l.rest
