use Rattle.std.proofs.Common.{◌≡◌, length}
use Rattle.dd_file.specs.Tags.{after_name}
use Rattle.dd_file.proofs.tag_reader.after_name_one_by_one.Given as goal

-- what is left ends up as the whole text does
abbrev pub invariant-loop-rest : goal.invariant-loop-rest
invariant-loop-rest l = after_name l.rest ≡ after_name l.fn.text

abbrev pub decreases-loop-rest : goal.decreases-loop-rest
decreases-loop-rest l = length l.rest
