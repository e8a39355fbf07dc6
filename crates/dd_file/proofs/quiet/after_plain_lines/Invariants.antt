use Rattle.std.proofs.Common.{length}
use Rattle.dd_file.specs.Quiet.{BeginsLines}
use Rattle.dd_file.proofs.quiet.after_plain_lines.Given as goal

-- the lines so far are such lines
abbrev pub invariant-loop-rest : goal.invariant-loop-rest
invariant-loop-rest l = BeginsLines l.fn.text l.rest

abbrev pub decreases-loop-rest : goal.decreases-loop-rest
decreases-loop-rest l = length l.rest
