use Rattle.std.proofs.Common.{◌≡◌, [], length, map, take, vec_len, Some, sym, ap, ◌∙◌, arith, rules}
use Rattle.dd_desk.specs.Entries.{event_in}
use Rattle.dd_desk.specs.Events.{EventOf}
use Rattle.dd_desk.specs.Receipts.{below}
use Rattle.dd_desk.proofs.locked_state.LockedState.new.Goals as goal

pub invariant_of-result : goal.invariant_of-result
unfolding below
invariant_of-result g c =
    let journal : c.new.result.journal.items ≡ [] = c.new.ensures.journal.0 in
    let none : vec_len c.new.result.journal ≡ 0 = c.new.ensures.journal.1 in
    let marks : c.args.marks.items ≡ [] = c.requires.marks.0 in
    let whole : g.J.Naming.all ≡ g.J.Tokens.parts = c.requires.passes.1 in
    let parts : c.open-count.result.1.parts ≡ g.J.Tokens.parts = c.open-count.ensures.parts in
    let parts' : c.open-sum.result.1.parts ≡ g.J.Tokens.parts = c.open-sum.ensures.parts in
    record {
      within = omega (arith, ap (λ l. l.events) c.new.ensures.limits, c.requires.events);
      marked = ap (map (λ n. n.cell)) marks ∙ sym (ap (λ k. take k g.J.Naming.cells) none ∙ search rules);
      knows = ap (map (λ n. event_in n.known)) marks ∙ sym (ap (map {A = EventOf} Some) journal);
      beginnings = λ place within. absurd (omega (arith, within, ap length journal));
      remembered = c.empty.ensures ∙ sym journal;
      room = (omega (arith, c.requires.marks.1, none), omega (arith, ap (λ l. l.events) c.new.ensures.limits, c.requires.marks.2));
      counted = c.open-count.ensures.total ∙ sym none;
      placed = c.open-sum.ensures.total ∙ sym (ap below none);
      limits_are = c.new.ensures.limits ∙ c.requires.limits;
      all_is = ap (λ l. l.passes) c.new.ensures.limits ∙ c.requires.passes.0;
      parts = (omega (arith, parts, whole), omega (arith, parts', whole));
      idle = (c.open-count.ensures.amount, c.open-sum.ensures.amount);
    }
