use Rattle.std.proofs.Common.{subst}
use Rattle.dd_book.specs.Limits.{LimitsOf}
use Rattle.dd_desk.specs.Events.{IsLegal}
use Rattle.dd_desk.specs.Sightings.{seen-journal}
use Rattle.dd_desk.proofs.locked_state.LockedState.seen.Goals as goal

pub returns-clause-was : goal.returns-clause-was
returns-clause-was g c =
    let state = c.args.self.now in
    let history = state.history in
    seen-journal g.J.Naming.limits history.journal.items (subst (λ (l : LimitsOf). IsLegal l history.journal.items) state.limits_are history.legal)
