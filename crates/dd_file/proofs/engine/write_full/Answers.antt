use Rattle.dd_file.proofs.Written.{WritesFront-none}
use Rattle.dd_file.proofs.engine.write_full.Goals as goal

pub returns-then-len-lt-WINDOW-clause-ok : goal.returns-then-len-lt-WINDOW-clause-ok
returns-then-len-lt-WINDOW-clause-ok g c = WritesFront-none g.A.Analyst.gives g.A.Analyst.way _ _ _ _
