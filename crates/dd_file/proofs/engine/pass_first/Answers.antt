use Rattle.dd_file.proofs.Going.{Passed-first-ok}
use Rattle.std.proofs.lemmas.Result.{on_err_weaker}
use Rattle.dd_file.proofs.Stopped.{Stops-first}
use Rattle.dd_file.proofs.engine.pass_first.Goals as goal

pub returns-clause-passes : goal.returns-clause-passes
returns-clause-passes g c = Passed-first-ok g.A.Analyst.gives g.A.Analyst.way c.args.is_all _ _ _ _ c.args.rest.now _ _ _ _ c.pass.result c.requires.some c.requires.room c.near_of.ensures c.is_near.ensures
    c.pass.ensures.notes c.pass.ensures.passed c.pass.ensures.passes

pub returns-clause-stops : goal.returns-clause-stops
returns-clause-stops g c = on_err_weaker c.pass.result
    (λ stops. Stops-first g.A.Analyst.gives g.A.Analyst.way c.args.is_all c.args.filler.now _ _ c.args.rest.now _ _ c.requires.some c.requires.room c.near_of.ensures c.is_near.ensures stops) c.pass.ensures.stops
