use Rattle.std.proofs.Common.{◌≡◌, ◌-◌, ◌+◌, length, map, ap, ◌∙◌, sym, refl, arith}
use Rattle.std.specs.Prelude.{slice_index_or}
use Rattle.dd_desk.specs.Entries.{event_in, journal_in}
use Rattle.dd_desk.specs.Receipts.{ReceiptOf}
use Rattle.dd_desk.proofs.Beginnings.{last-same, maps-at, seen-has}
use Rattle.dd_desk.proofs.Showing.{read}
use Rattle.dd_desk.proofs.seen.last_seen.Goals as goal

pub invariant_of-log-clause-knows : goal.invariant_of-log-clause-knows
invariant_of-log-clause-knows g c = ap (map (λ n. event_in n.known)) c.again_at.ensures.marks.0 ∙ c.args.log.now.knows

pub invariant_of-log-clause-last : goal.invariant_of-log-clause-last
invariant_of-log-clause-last g c =
    let old = c.args.log.now in
    last-same (λ n. journal_in n.known) old.marks.items _ old.number old.receipts.items _ c.again_at.ensures.marks.0 refl old.last

pub invariant_of-result : goal.invariant_of-result
invariant_of-result g c =
    let log = c.args.log.now in
    let rs = log.receipts.items in
    let at = c.len-last.result - 1 in
    let x = c.index.result.now in
    let end : at + 1 ≡ length rs = omega (arith, c.len-last.ensures, c.requires, log.receipts.ok.0) in
    let is = read rs at x (omega (arith, end)) c.index.ensures in
    let cells = g.J.Naming.cells in (
      maps-at (λ n. n.cell) (λ (r : ReceiptOf). slice_index_or cells r.place 0) log.marks.items rs at c.again_at.result x log.marked c.again_at.ensures.again is ∙ ap (λ k. slice_index_or cells k 0) (sym c.place.ensures),
      (seen-has (λ n. n.known) log.marks.items log.number rs at c.again_at.result log.knows log.last end c.again_at.ensures.again).0,
    )

pub returns-clause-has : goal.returns-clause-has
returns-clause-has g c =
    let log = c.args.log.now in
    let rs = log.receipts.items in
    let at = c.len-last.result - 1 in
    let end : at + 1 ≡ length rs = omega (arith, c.len-last.ensures, c.requires, log.receipts.ok.0) in
    (seen-has (λ n. n.known) log.marks.items log.number rs at c.again_at.result log.knows log.last end c.again_at.ensures.again).1
