-- the one induction over play
use Rattle.std.proofs.Common.{◌≡◌, ℕ, zero, suc, ◌+◌, ◌≤◌, Bool, true, false, refl, ap, ◌∙◌, arith, List, [], ◌∷◌}
use Rattle.dd_cards.specs.PlayingCard.{PlayingCard}
use Rattle.dd_cards.specs.Cards.{has_card}
use Rattle.dd_cards.specs.Sides.{is_side}
use Rattle.dd_cards.specs.declared.side.Side.{Side}
use Rattle.dd_play.specs.Board.{Board, IsBoard, cards_left, mover}
use Rattle.dd_play.specs.Play.{legal, after}
use Rattle.dd_play.proofs.Boards.{has-first}
use Rattle.dd_play.specs.Won.{won, trick_for}
use Rattle.dd_play.specs.Simulations.{IsLegal, IsSimulation}
use Rattle.dd_play.proofs.Rules.{won_with, can, bears, most, least, none}
use Rattle.dd_play.proofs.Values.{cards_left-after}

-- the law for one position, if it holds after each card
step : (R : Side → Board → Side → Board → Type 0) → IsSimulation R → (s : Side) (p : Board) (t : Side) (q : Board) → R s p t q
    → ((c d : PlayingCard) → IsLegal p c → R s (after p c) t (after q d) → won s (after p c) ≤ won t (after q d)) → won s p ≤ won t q
step R sim s p t q r later = go (is_side s (mover p)) refl
  where
    valid : IsBoard p
    valid = (sim.boards s p t q r).0

    valid' : IsBoard q
    valid' = (sim.boards s p t q r).1

    ours : is_side s (mover p) ≡ true → (cards : List PlayingCard) → legal p ≡ cards → won s p ≤ won t q
    ours e [] l = (let z = none s p valid l in omega (arith, z))
    ours e (x ∷ cards) l =
        most s p (won t q) valid e x (ap (λ l. has_card l x) l ∙ has-first x cards) (λ c has.
        let a = sim.forth s p t q r e c has in
        let ih : won s (after p c) ≤ won t (after q a.0) = later c a.0 has a.3 in
        let reach : won_with t q a.0 ≤ won t q = can t q a.0 valid' (sim.turns s p t q r ∙ e) a.1 in
        let gained : trick_for s p c ≤ trick_for t q a.0 = a.2 in
        omega (arith, ih, reach, gained))

    theirs : is_side s (mover p) ≡ false → (cards : List PlayingCard) → legal q ≡ cards → won s p ≤ won t q
    theirs e [] l = (let z = none s p valid (sim.ends s p t q r l) in omega (arith, z))
    theirs e (x ∷ cards) l =
        least t q (won s p) valid' (sim.turns s p t q r ∙ e) x (ap (λ l. has_card l x) l ∙ has-first x cards) (λ d has.
        let a = sim.back s p t q r e d has in
        let ih : won s (after p a.0) ≤ won t (after q d) = later a.0 d a.1 a.3 in
        let reach : won s p ≤ won_with s p a.0 = bears s p a.0 valid e a.1 in
        let gained : trick_for s p a.0 ≤ trick_for t q d = a.2 in
        omega (arith, ih, reach, gained))

    go : (b : Bool) → is_side s (mover p) ≡ b → won s p ≤ won t q
    go true e = ours e (legal p) refl
    go false e = theirs e (legal q) refl

-- the law for positions of at most n cards
within : (R : Side → Board → Side → Board → Type 0) → IsSimulation R → (n : ℕ) (s : Side) (p : Board) (t : Side) (q : Board) → cards_left p ≤ n → R s p t q → won s p ≤ won t q
within R sim zero s p t q few r = step R sim s p t q r (λ c d has next. absurd (let k : cards_left (after p c) + 1 ≡ cards_left p = cards_left-after p c (sim.boards s p t q r).0 has in omega (arith, k, few)))
within R sim (suc n) s p t q few r = step R sim s p t q r (λ c d has next.
    let k : cards_left (after p c) + 1 ≡ cards_left p = cards_left-after p c (sim.boards s p t q r).0 has in
    within R sim n s (after p c) t (after q d) (omega (arith, k, few)) next)

-- The law of simulations: under such a relation the second side takes at least as many tricks.
pub simulated : (R : Side → Board → Side → Board → Type 0) → IsSimulation R → (s : Side) (p : Board) (t : Side) (q : Board) → R s p t q → won s p ≤ won t q
simulated R sim s p t q r = within R sim (cards_left p) s p t q (omega arith) r
