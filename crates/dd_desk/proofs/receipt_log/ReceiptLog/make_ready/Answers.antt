use Rattle.std.proofs.Common.{◌∙◌, ap, sym, arith}
use Rattle.dd_desk.specs.Receipts.{has_shut}
use Rattle.dd_desk.proofs.receipt_log.ReceiptLog.make_ready.Goals as goal

-- The lists have what they had, and no less room.
pub invariant_of-self : goal.invariant_of-self
invariant_of-self g c =
    let old = c.args.self.now in
    let receipts = c.reserve.ensures.items in
    let marks = c.reserve-2.ensures.items in
    record {
      marked = rw receipts (rw marks old.marked);
      knows = rw receipts (rw marks old.knows);
      last = rw receipts (rw marks old.last);
      rising = rw receipts old.rising;
      next_is = rw receipts old.next_is;
      places_is = rw receipts old.places_is;
      ready = λ none.
          let was = old.ready (ap has_shut (sym receipts) ∙ none) in (
            omega (arith, was.0, c.reserve.ensures.len, c.reserve.ensures.capacity),
            omega (arith, was.1, c.reserve-2.ensures.len, c.reserve-2.ensures.capacity),
            was.2,
          );
    }
