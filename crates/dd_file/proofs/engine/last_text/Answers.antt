use Rattle.dd_file.proofs.Written.{ended-from, stops-from}
use Rattle.dd_file.proofs.engine.last_text.Goals as goal

pub returns-in-Ok-clause-ended : goal.returns-in-Ok-clause-ended
returns-in-Ok-clause-ended g c =
    ended-from g.A.Analyst.gives g.A.Analyst.way c.args.filler.now.wanted c.args.filler.now _ _ _ _ c.args.window.now _ c.foresee.ensures c.in-Ok.ensures.ended

pub returns-in-Err-clause-stops : goal.returns-in-Err-clause-stops
returns-in-Err-clause-stops g c = stops-from g.A.Analyst.gives g.A.Analyst.way _ c.args.filler.now _ _ _ _ c.foresee.ensures c.in-Err.ensures.stops
