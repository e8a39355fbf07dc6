use Rattle.std.proofs.Common.{◌-◌, ap, ◌∙◌, arith, map, refl, subst}
use Rattle.dd_book.specs.Limits.{LimitsOf}
use Rattle.dd_desk.specs.Entries.{event_in, journal_in}
use Rattle.dd_desk.specs.Events.{IsLegal}
use Rattle.dd_desk.specs.Sightings.{seen-journal}
use Rattle.dd_desk.proofs.Beginnings.{beginnings-same, last-same, recalled}
use Rattle.dd_desk.proofs.recall.recall.Goals as goal

pub invariant_of-state-2-clause-knows : goal.invariant_of-state-2-clause-knows
invariant_of-state-2-clause-knows g c = ap (map (λ n. event_in n.known)) c.agree.ensures.kept.0 ∙ c.args.state.now.knows

pub invariant_of-state-2-clause-beginnings : goal.invariant_of-state-2-clause-beginnings
invariant_of-state-2-clause-beginnings g c =
    let old = c.args.state.now in
    beginnings-same (λ n. journal_in n.known) old.marks.items _ old.history.journal.items c.agree.ensures.kept.0 old.beginnings

pub invariant_of-log-2-clause-knows : goal.invariant_of-log-2-clause-knows
invariant_of-log-2-clause-knows g c = ap (map (λ n. event_in n.known)) c.agree.ensures.marks.0 ∙ c.args.log.now.knows

pub invariant_of-log-2-clause-last : goal.invariant_of-log-2-clause-last
invariant_of-log-2-clause-last g c =
    let old = c.args.log.now in
    last-same (λ n. journal_in n.known) old.marks.items _ old.number old.receipts.items _ c.agree.ensures.marks.0 refl old.last

pub returns-clause-has : goal.returns-clause-has
returns-clause-has g c =
    let state = c.args.state.now in
    let log = c.args.log.now in
    let js = state.history.journal.items in
    let rs = log.receipts.items in
    recalled (λ n. n.known) state.marks.items log.marks.items js log.number rs (c.len-count.result - 1) c.place-place.result state.knows state.beginnings log.knows log.last
    (omega (arith, c.len-count.ensures, c.if-count-eq0.false, log.receipts.ok.0)) (omega (arith, c.if-place-len.false, c.len.ensures, state.history.journal.ok.0)) c.agree.ensures.entries

-- with receipts or without
pub returns-then-count-eq0-clause-was : goal.returns-then-count-eq0-clause-was
returns-then-count-eq0-clause-was g c =
    let state = c.args.state.now in
    seen-journal g.J.Naming.limits state.history.journal.items (subst (λ (l : LimitsOf). IsLegal l state.history.journal.items) state.limits_are state.history.legal)

pub returns-clause-was : goal.returns-clause-was
returns-clause-was g c =
    let state = c.args.state.now in
    seen-journal g.J.Naming.limits state.history.journal.items (subst (λ (l : LimitsOf). IsLegal l state.history.journal.items) state.limits_are state.history.legal)
