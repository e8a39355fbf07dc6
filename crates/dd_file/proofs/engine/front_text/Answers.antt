use Rattle.std.proofs.Common.{ℕ, subst, List, drop}
use Rattle.std.specs.Prelude.{false}
use Rattle.dd_file.specs.Windows.{PassesFront}
use Rattle.dd_file.proofs.Written.{front-from, stops-from}
use Rattle.dd_file.proofs.engine.front_text.Goals as goal

pub returns-in-Ok-clause-passes : goal.returns-in-Ok-clause-passes
returns-in-Ok-clause-passes g c =
    subst (λ (l : List ℕ). PassesFront g.A.Analyst.gives g.A.Analyst.way false c.args.filler.now c.pass_front.new.filler (g.A.Analyst.state c.args.analyst.now) (g.A.Analyst.state c.pass_front.new.analyst)
    c.args.window.now (drop c.args.count c.args.window.now) l c.pass_front.new.out.items) c.new-text.ensures.items
    (front-from g.A.Analyst.gives g.A.Analyst.way _ _ _ _ _ _ _ _ _ _ c.foresee.ensures c.in-Ok.ensures.passes)

pub returns-in-Err-clause-stops : goal.returns-in-Err-clause-stops
returns-in-Err-clause-stops g c = stops-from g.A.Analyst.gives g.A.Analyst.way _ c.args.filler.now _ _ _ _ c.foresee.ensures c.in-Err.ensures.stops
