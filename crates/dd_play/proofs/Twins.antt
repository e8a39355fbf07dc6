-- positions related with all cards as top cards have one value
use Rattle.std.proofs.Common.{◌≡◌, ℕ, Bool, true, false, refl, sym, ap, ◌∙◌, arith, List, [], ◌∷◌}
use Rattle.dd_cards.specs.PlayingCard.{PlayingCard}
use Rattle.dd_cards.specs.Cards.{has_card}
use Rattle.dd_cards.specs.Sides.{is_side}
use Rattle.dd_cards.specs.declared.side.Side.{Side}
use Rattle.dd_play.specs.Board.{Board, mover}
use Rattle.dd_play.specs.Play.{legal}
use Rattle.dd_play.specs.Won.{won}
use Rattle.dd_play.specs.Simulations.{IsLegal, IsSimulation}
use Rattle.dd_play.specs.Covers.{IsCover, any_card, AreTwins}
use Rattle.dd_play.proofs.Boards.{has-first}
use Rattle.dd_play.proofs.Simulate.{simulated}
use Rattle.dd_play.proofs.Steps.{mover-turned, answer, answer', stepped}

-- where each legal card has a legal answer and there is none, there is no legal card
ends-of : (p q : Board) → ((c : PlayingCard) → IsLegal p c → (d : PlayingCard) × IsLegal q d) → legal q ≡ [] → legal p ≡ []
ends-of p q each e = go (legal p) refl
  where
    go : (cards : List PlayingCard) → legal p ≡ cards → legal p ≡ []
    go [] l = l
    go (c ∷ cards) l =
        let d = each c (ap (λ l. has_card l c) l ∙ has-first c cards) in
        absurd (let k : false ≡ true = ap (λ l. has_card l d.0) (sym e) ∙ d.1 in cc)

-- the movers are of the two sides, or neither is
pub sides-turned : (top : PlayingCard → Bool) (k : ℕ) (to from : PlayingCard → PlayingCard) (s : Side) (p : Board) (t : Side) (q : Board) → IsCover top k to from s p t q → is_side t (mover q) ≡ is_side s (mover p)
sides-turned top k to from s p t q r = ap (is_side t) (mover-turned top k to from s p t q r) ∙ r.sides (mover p)

-- the one side does at least as well as the other
twins-simulate : IsSimulation AreTwins
twins-simulate = record {
  boards = λ s p t q r. (r.3.valid_p, r.3.valid_q);
  turns = λ s p t q r. sides-turned any_card r.0 r.1 r.2 s p t q r.3;
  ends = λ s p t q r. ends-of p q (λ c has. let d = answer any_card r.0 r.1 r.2 s p t q r.3 c has in (d.0, d.1));
  forth = λ s p t q r mine c has. (
      let d = answer any_card r.0 r.1 r.2 s p t q r.3 c has in
      let n = stepped any_card r.0 r.1 r.2 s p t q r.3 c d.0 has d.1 d.2 (λ e i l h f. refl) in
      (d.0, d.1, (let w = n.worth in omega (arith, w)), (r.0, r.1, r.2, n.cover)));
  back = λ s p t q r mine d has. (
      let c = answer' any_card r.0 r.1 r.2 s p t q r.3 d has in
      let n = stepped any_card r.0 r.1 r.2 s p t q r.3 c.0 d c.1 has c.2 (λ e i l h f. refl) in
      (c.0, c.1, (let w = n.worth in omega (arith, w)), (r.0, r.1, r.2, n.cover)));
}

-- the relation, read from the other game
abbrev Flipped : Side → Board → Side → Board → Type 0
Flipped t q s p = AreTwins s p t q

-- and the other at least as well as the one
twins-simulate-back : IsSimulation Flipped
twins-simulate-back = record {
  boards = λ t q s p r. (r.3.valid_q, r.3.valid_p);
  turns = λ t q s p r. sym (sides-turned any_card r.0 r.1 r.2 s p t q r.3);
  ends = λ t q s p r. ends-of q p (λ d has. let c = answer' any_card r.0 r.1 r.2 s p t q r.3 d has in (c.0, c.1));
  forth = λ t q s p r mine d has. (
      let c = answer' any_card r.0 r.1 r.2 s p t q r.3 d has in
      let n = stepped any_card r.0 r.1 r.2 s p t q r.3 c.0 d c.1 has c.2 (λ e i l h f. refl) in
      (c.0, c.1, (let w = n.worth in omega (arith, w)), (r.0, r.1, r.2, n.cover)));
  back = λ t q s p r mine c has. (
      let d = answer any_card r.0 r.1 r.2 s p t q r.3 c has in
      let n = stepped any_card r.0 r.1 r.2 s p t q r.3 c d.0 has d.1 d.2 (λ e i l h f. refl) in
      (d.0, d.1, (let w = n.worth in omega (arith, w)), (r.0, r.1, r.2, n.cover)));
}

-- twins have one value
pub twins-won : (s : Side) (p : Board) (t : Side) (q : Board) → AreTwins s p t q → won t q ≡ won s p
twins-won s p t q r =
    let a = simulated AreTwins twins-simulate s p t q r in
    let b = simulated Flipped twins-simulate-back t q s p r in
    omega (arith, a, b)
