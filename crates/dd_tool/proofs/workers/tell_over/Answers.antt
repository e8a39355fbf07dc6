use Rattle.dd_tool.proofs.Blamed.{blamed}
use Rattle.dd_tool.proofs.workers.tell_over.Goals as goal

pub returns-clause-blames : goal.returns-clause-blames
returns-clause-blames g c = blamed _ _ _ c.tell_lines_ahead-result.ensures.read c.tell_lines_ahead-result.ensures.write
