use Rattle.dd_file.proofs.Written.{WritesBegun-none}
use Rattle.dd_file.proofs.engine.take_piece.Goals as goal

pub returns-in-Err-clause-err : goal.returns-in-Err-clause-err
returns-in-Err-clause-err g c = WritesBegun-none g.A.Analyst.gives g.A.Analyst.way _ c.args.filler.now (g.A.Analyst.state c.args.analyst.now) _ _
