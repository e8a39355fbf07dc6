use Rattle.std.proofs.Common.{ap, ◌∙◌, arith, map, subst}
use Rattle.dd_book.specs.Limits.{LimitsOf}
use Rattle.dd_desk.specs.Entries.{event_in, journal_in}
use Rattle.dd_desk.specs.Events.{IsLegal}
use Rattle.dd_desk.specs.Sightings.{seen-journal}
use Rattle.dd_desk.proofs.Beginnings.{beginnings-same, goes-on}
use Rattle.dd_desk.proofs.seen.goes_on.Goals as goal

pub invariant_of-state-2-clause-knows : goal.invariant_of-state-2-clause-knows
invariant_of-state-2-clause-knows g c = ap (map (λ n. event_in n.known)) c.compare.ensures.kept.0 ∙ c.args.state.now.knows

pub invariant_of-state-2-clause-beginnings : goal.invariant_of-state-2-clause-beginnings
invariant_of-state-2-clause-beginnings g c =
    let old = c.args.state.now in
    beginnings-same (λ n. journal_in n.known) old.marks.items _ old.history.journal.items c.compare.ensures.kept.0 old.beginnings

pub returns-clause-goes_on : goal.returns-clause-goes_on
returns-clause-goes_on g c =
    let state = c.args.state.now in
    let seen = c.seen.inside in
    λ goes. rw (← c.seen.view_is) (goes-on (λ n. n.known) state.marks.items state.history.journal.items seen.number seen.place seen.mark.known state.knows state.beginnings
    (omega (arith, c.if-place-len.false, c.len.ensures, state.history.journal.ok.0)) c.seen.invariant.1
    (λ x y there is. c.compare.ensures.entries x y there (ap (λ m. m.known) c.again-other.ensures.1 ∙ is)))

pub returns-clause-was : goal.returns-clause-was
returns-clause-was g c =
    let state = c.args.state.now in
    seen-journal g.J.Naming.limits state.history.journal.items (subst (λ (l : LimitsOf). IsLegal l state.history.journal.items) state.limits_are state.history.legal)

pub returns-then-place-len-clause-was : goal.returns-then-place-len-clause-was
returns-then-place-len-clause-was g c =
    let state = c.args.state.now in
    seen-journal g.J.Naming.limits state.history.journal.items (subst (λ (l : LimitsOf). IsLegal l state.history.journal.items) state.limits_are state.history.legal)
