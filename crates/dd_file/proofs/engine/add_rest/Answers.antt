use Rattle.std.proofs.Common.{◌≤◌, arith, drop_of_length-le, length}
use Rattle.std.proofs.lemmas.Result.{on_ok_weaker, on_err_weaker}
use Rattle.dd_file.proofs.Written.{Ended-front, front-then-none}
use Rattle.dd_file.proofs.engine.add_rest.Goals as goal

pub returns-clause-ended : goal.returns-clause-ended
returns-clause-ended g c =
    let whole : length c.args.window.now ≤ length c.args.window.now = omega arith in
    on_ok_weaker c.add_last.result
    (λ last. Ended-front g.A.Analyst.gives g.A.Analyst.way _ _ _ _ _ c.args.window.now _ _ _ _ c.requires (drop_of_length-le c.args.window.now whole) c.in_ok-pass_front.ensures.passes last) c.add_last.ensures.adds

pub returns-clause-stops : goal.returns-clause-stops
returns-clause-stops g c =
    on_err_weaker c.add_last.result (λ same. front-then-none g.A.Analyst.gives g.A.Analyst.way _ _ _ _ _ c.args.window.now _ _ _ same c.in_ok-pass_front.ensures.passes) c.add_last.ensures.stops
