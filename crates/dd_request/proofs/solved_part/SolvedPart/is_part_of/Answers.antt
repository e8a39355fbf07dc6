use Rattle.std.proofs.Common.{◌≡◌, ℕ, true, false, sym, ap, ◌∙◌, nat_eq}
use Rattle.std.specs.Prelude.{◌&&◌}
use Rattle.dd_cards.specs.Same.{same_hands}
use Rattle.dd_request.specs.Results.{PartResult}
use Rattle.dd_request.proofs.SameLaws.{same_part-told}
use Rattle.dd_request.proofs.solved_part.SolvedPart.is_part_of.Goals as goal

pub returns-then-eq-clause-is : goal.returns-then-eq-clause-is
returns-then-eq-clause-is c =
    let with_tricks : ℕ → PartResult = λ n. record { hands = c.self.inside.request; part = c.self.inside.part; tricks = n } in
    let yes : same_hands c.args.request.now c.self.inside.request ≡ true = sym c.eq.ensures ∙ c.if-eq.true in
    rw (← c.self.view_is) (same_part-told (nat_eq c.self.inside.part c.args.part) (with_tricks c.self.inside.tricks) c.args.request.now c.args.part (ap with_tricks c.self.invariant.2)
    (sym (ap (λ b. b && nat_eq c.self.inside.part c.args.part) yes)))

pub returns-else-eq-clause-is : goal.returns-else-eq-clause-is
returns-else-eq-clause-is c =
    let with_tricks : ℕ → PartResult = λ n. record { hands = c.self.inside.request; part = c.self.inside.part; tricks = n } in
    let no : same_hands c.args.request.now c.self.inside.request ≡ false = sym c.eq.ensures ∙ c.if-eq.false in
    rw (← c.self.view_is) (same_part-told c.eq.result (with_tricks c.self.inside.tricks) c.args.request.now c.args.part (ap with_tricks c.self.invariant.2)
    (c.if-eq.false ∙ sym (ap (λ b. b && nat_eq c.self.inside.part c.args.part) no)))
