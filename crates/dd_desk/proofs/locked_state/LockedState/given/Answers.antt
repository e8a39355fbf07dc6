use Rattle.std.specs.Prelude.{◌≤◌, ◌≡◌, ℕ}
use Rattle.std.proofs.Common.{arith, subst}
use Rattle.dd_book.specs.Limits.{LimitsOf}
use Rattle.dd_desk.specs.Sightings.{passes-given}
use Rattle.dd_desk.proofs.locked_state.LockedState.given.Goals as goal

pub returns-clause-given : goal.returns-clause-given
returns-clause-given g c =
    let state = c.args.self.now in
    let most : state.given ≤ state.history.limits.passes = omega (arith, state.parts.0, state.all_is) in
    passes-given g.J.Naming.limits state.given (subst (λ (l : LimitsOf). state.given ≤ l.passes) state.limits_are most)
