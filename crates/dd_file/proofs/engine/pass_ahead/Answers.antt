use Rattle.dd_file.proofs.Written.{ended-any, front-any}
use Rattle.dd_file.proofs.engine.pass_ahead.Goals as goal

pub returns-then-is_all : goal.returns-then-is_all
returns-then-is_all g c = ended-any g.A.Analyst.gives g.A.Analyst.way c.args.filler.now.wanted c.args.filler.now _ _ _ c.args.window.now _ c.add_rest.result c.add_rest.ensures.ended c.add_rest.ensures.stops

pub returns : goal.returns
returns g c = front-any g.A.Analyst.gives g.A.Analyst.way _ c.args.filler.now _ _ _ c.args.window.now _ _ _ c.pass_front.result c.pass_front.ensures.passes c.pass_front.ensures.stops
