use Rattle.std.proofs.Common.{length}
use Rattle.dd_tool.proofs.line_queue.LineQueue.take_in.Given as goal

abbrev pub decreases-loop-at : goal.decreases-loop-at
decreases-loop-at l = length l.rest
