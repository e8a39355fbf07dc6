use Rattle.dd_tool.proofs.Blamed.{blames-reader, blames-writer}
use Rattle.dd_tool.proofs.workers.tell_lines_on.Goals as goal

pub returns-clause-read : goal.returns-clause-read
returns-clause-read g c = blames-reader _ _ _ c.tell_with_help.ensures.blames

pub returns-clause-write : goal.returns-clause-write
returns-clause-write g c = blames-writer _ _ _ c.tell_with_help.ensures.blames
