use Rattle.std.proofs.Common.{◌≡◌, ◌≤◌, ◌-◌, length, arith}
use Rattle.std.proofs.lemmas.Result.{err_from_is_err_and}
use Rattle.dd_file.proofs.Going.{PassesFront-then, PassesFront-none}
use Rattle.dd_file.proofs.Staying.{PassesFront-behind}
use Rattle.dd_file.proofs.Stopped.{Stops-rest, front-then-stops}
use Rattle.dd_file.proofs.engine.pass_front.Goals as goal

pub loop-at-init : goal.loop-at-init
loop-at-init g c = record { within = omega arith; front = PassesFront-none g.A.Analyst.gives g.A.Analyst.way _ _ _ _ _ }

pub loop-at-preserved : goal.loop-at-preserved
loop-at-preserved g c =
    let within : c.loop-at.at ≤ length c.args.window.now = omega arith in
    let few : c.in_ok-at.field-0 ≤ c.args.count - c.loop-at.at = c.in_ok-at.ensures.passes.within in
    record {
      within = omega arith;
      front = PassesFront-then g.A.Analyst.gives g.A.Analyst.way _ _ _ _ _ _ _ _ _ _ _ _ _ c.loop-at.invariant.front (PassesFront-behind g.A.Analyst.gives g.A.Analyst.way _ _ _ _ _ c.args.window.now c.loop-at.at _ _ _ within c.in_ok-at.ensures.passes.front);
    }

pub returns-clause-passes : goal.returns-clause-passes
returns-clause-passes g c =
    let done : c.loop-at.at ≡ c.args.count = omega arith in
    rw (← done) c.loop-at.invariant.front

pub returns-in_err-at-clause-stops : goal.returns-in_err-at-clause-stops
returns-in_err-at-clause-stops g c =
    let p = err_from_is_err_and c.from_residual.result c.from_residual.ensures.1 in
    let within : c.loop-at.at ≤ length c.args.window.now = omega arith in
    rw p.1 (front-then-stops g.A.Analyst.gives g.A.Analyst.way _ _ c.loop-at.filler _ _ _ _ _ _ _ c.loop-at.invariant.front
    (Stops-rest g.A.Analyst.gives g.A.Analyst.way _ c.loop-at.filler _ _ c.args.window.now c.loop-at.at within c.in_err-at.ensures.stops))
