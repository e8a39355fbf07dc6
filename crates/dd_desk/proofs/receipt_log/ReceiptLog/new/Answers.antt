use Rattle.std.proofs.Common.{◌≡◌, [], length, map, Some, refl, sym, ap, ◌∙◌, arith}
use Rattle.std.specs.Prelude.{slice_index_or, sum_by}
use Rattle.dd_desk.specs.Entries.{event_in}
use Rattle.dd_desk.specs.Receipts.{ReceiptOf, told_by, rises, next_of}
use Rattle.dd_desk.proofs.receipt_log.ReceiptLog.new.Goals as goal

pub invariant_of-result : goal.invariant_of-result
unfolding rises next_of
invariant_of-result g c =
    let receipts : c.args.blank.receipts.items ≡ [] = c.args.blank.empty.0 in
    let marks : c.args.blank.marks.items ≡ [] = c.args.blank.empty.2 in
    record {
      marked = ap (map (λ n. n.cell)) marks ∙ sym (ap (map (λ (r : ReceiptOf). slice_index_or g.J.Naming.cells r.place 0)) receipts);
      knows = ap (map (λ n. event_in n.known)) marks ∙ sym (ap (map (λ (r : ReceiptOf). Some (told_by c.args.number r))) receipts);
      last = λ at journal end is. absurd (omega (arith, end, ap length receipts));
      rising = ap (rises 0) receipts;
      next_is = sym (ap (next_of 0) receipts);
      places_is = sym (ap (sum_by (λ (r : ReceiptOf). r.place)) receipts);
      ready = λ fresh. (omega (arith, c.args.blank.empty.1, c.args.blank.room.0), omega (arith, c.args.blank.empty.3, c.args.blank.room.1), refl);
    }
