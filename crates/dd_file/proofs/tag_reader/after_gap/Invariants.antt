use Rattle.std.proofs.Common.{◌≡◌, length}
use Rattle.dd_file.specs.declared.mode.Mode.TheVariants.{Plain}
use Rattle.dd_file.specs.Tags.{after_gap}
use Rattle.dd_file.proofs.tag_reader.after_gap.Given as goal

-- what is left ends up as the whole text does
abbrev pub invariant-loop-rest : goal.invariant-loop-rest
invariant-loop-rest l = after_gap l.mode l.rest ≡ after_gap Plain l.fn.text

abbrev pub decreases-loop-rest : goal.decreases-loop-rest
decreases-loop-rest l = length l.rest
