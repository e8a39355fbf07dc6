-- the value of a position is the greatest score of its cards
use Rattle.std.proofs.Common.{◌≡◌, ℕ, ◌+◌, ◌-◌, ◌<◌, ◌≤◌, Bool, true, false, refl, sym, ap, ◌∙◌, arith, List, [], ◌∷◌, length, inl, inr, eqb-true}
use Rattle.std.specs.Prelude.{◌==◌, ◌⊎◌, if◌then◌else◌}
use Rattle.std.proofs.lemmas.Bool.{eqb-false}
use Rattle.dd_cards.specs.PlayingCard.{PlayingCard}
use Rattle.dd_cards.specs.Cards.{has_card, same_card}
use Rattle.dd_cards.specs.Seats.{is_north_south, seat_after}
use Rattle.dd_cards.proofs.CallerLemmas.{is-same, same-other, same-self, same_card-eq}
use Rattle.dd_cards.specs.Sides.{side_of, other_side, same_side}
use Rattle.dd_cards.specs.declared.side.Side.{Side}
use Rattle.dd_cards.specs.declared.side.Side.TheVariants.{NorthSouth, EastWest}
use Rattle.dd_play.specs.Board.{Board, IsBoard, mover, tricks_left}
use Rattle.dd_play.specs.Play.{after}
use Rattle.dd_play.specs.Value.{ns_with, score, leaders_tricks}
use Rattle.dd_play.specs.Won.{won}
use Rattle.dd_play.specs.Simulations.{IsLegal}
use Rattle.dd_play.specs.Claims.{Takes}
use Rattle.dd_play.proofs.CallerLemmas.{all, can, exactly, has-first, in-rest, leaders_tricks-won, legal-leads, one-trick, won-east-west, won_with}
use Rattle.dd_equal.specs.EqualCards.{tops}
use Rattle.dd_equal.proofs.CallerLemmas.{every-class}
use Rattle.dd_search.proofs.Orders.{top-legal}

-- the value of a position, by the name of its side
abbrev pub value_of : Board → ℕ
value_of p = won (side_of (mover p)) p

-- the score of a card is what its side wins with it
score-won : (p : Board) (c : PlayingCard) → IsBoard p → IsLegal p c → score p c ≡ won_with (side_of (mover p)) p c
score-won p c valid has = go (side_of (mover p))
  where
    go : (side : Side) → (if same_side side NorthSouth then ns_with p c else (tricks_left p - ns_with p c)) ≡ won_with side p c
    go NorthSouth = refl
    go EastWest = let e = won-east-west p c valid has in omega (arith, e)

-- no card scores more than the value
pub score-most : (p : Board) (c : PlayingCard) → IsBoard p → IsLegal p c → score p c ≤ value_of p
score-most p c valid has =
    let e = score-won p c valid has in
    let k = can (side_of (mover p)) p c valid (same-self (side_of (mover p))) has in
    omega (arith, e, k)

-- a card of the list passes a test, or none does
found : (test : PlayingCard → Bool) (cards : List PlayingCard)
    → ((c : PlayingCard) × (has_card cards c ≡ true) × (test c ≡ true)) ⊎ ((c : PlayingCard) → has_card cards c ≡ true → test c ≡ false)
found test [] = inr (λ c has. absurd (cc))
found test (d ∷ cards) = go (test d) refl (found test cards)
  where
    here : (c : PlayingCard) → test d ≡ false → ((e : PlayingCard) → has_card cards e ≡ true → test e ≡ false) → has_card (d ∷ cards) c ≡ true → test c ≡ false
    here c fails rest has = split (same_card d c) refl
      where
        split : (b : Bool) → same_card d c ≡ b → test c ≡ false
        split true e = ap test (sym (same_card-eq d c e)) ∙ fails
        split false e = rest c (rw e at has)

    go : (b : Bool) → test d ≡ b → ((c : PlayingCard) × (has_card cards c ≡ true) × (test c ≡ true)) ⊎ ((c : PlayingCard) → has_card cards c ≡ true → test c ≡ false)
        → ((c : PlayingCard) × (has_card (d ∷ cards) c ≡ true) × (test c ≡ true)) ⊎ ((c : PlayingCard) → has_card (d ∷ cards) c ≡ true → test c ≡ false)
    go true e rest = inl (d, has-first d cards, e)
    go false e (inl c) = inl (c.0, in-rest d c.0 cards c.1, c.2)
    go false e (inr rest) = inr (λ c has. here c e rest has)

-- what the mover's side does not win with a card, the other side does
pub against : (side : Side) (p : Board) (c : PlayingCard) → IsBoard p → IsLegal p c → won_with side p c + won_with (other_side side) p c ≡ tricks_left p
against side p c valid has =
    let next = legal-leads p c valid has in
    let tricks = next.tricks in
    let rest = all side (after p c) next.valid in
    let one = one-trick side p c in
    omega (arith, tricks, rest, one)

-- were the highest card of each class to score less, the other side would win more than are left
too-few : (p : Board) → IsBoard p → 1 ≤ tricks_left p → ((c : PlayingCard) → has_card (tops p) c ≡ true → score p c < value_of p) → ⊥
too-few p valid some each =
    let side : Side = side_of (mover p) in
    let sum = all side p valid in
    let others : Takes (other_side side) p (tricks_left p + 1 - value_of p) = every-class (other_side side) p (tricks_left p + 1 - value_of p) valid (same-other side) some (λ c has. (
    let legal = top-legal p c has in
    let less = each c has in
    let worth = score-won p c valid legal in
    let rest = against side p c valid legal in
    (won (other_side side) (after p c), omega arith, omega (arith, less, worth, rest)))) in
    omega (arith, sum, others)

-- so the highest card of some class scores the value
pub score-reached : (p : Board) → IsBoard p → 1 ≤ tricks_left p → (c : PlayingCard) × (has_card (tops p) c ≡ true) × (score p c ≡ value_of p)
score-reached p valid some = go (found (λ c. score p c == value_of p) (tops p))
  where
    go : ((c : PlayingCard) × (has_card (tops p) c ≡ true) × ((score p c == value_of p) ≡ true)) ⊎ ((c : PlayingCard) → has_card (tops p) c ≡ true → (score p c == value_of p) ≡ false)
        → (c : PlayingCard) × (has_card (tops p) c ≡ true) × (score p c ≡ value_of p)
    go (inl c) = (c.0, c.1, eqb-true (score p c.0) (value_of p) c.2)
    go (inr not_one) = absurd (too-few p valid some (λ c has. (
        let most = score-most p c valid (top-legal p c has) in
        let other = eqb-false (score p c) (value_of p) (not_one c has) in
        omega (arith, most, other))))

-- ---- what a search learns of it

-- the tricks of North and South are the value, or those that they leave
pub value-north-south : (p : Board) (tricks : ℕ) → IsBoard p → Takes NorthSouth p tricks → Takes EastWest p (tricks_left p - tricks) → tricks ≤ tricks_left p → is_north_south (mover p) ≡ true → tricks ≡ value_of p
value-north-south p tricks valid theirs others within e =
    sym (exactly NorthSouth p tricks (tricks_left p - tricks) valid theirs others (omega arith)) ∙ ap (λ side. won side p) (sym (is-same (side_of (mover p)) NorthSouth e))

pub value-east-west : (p : Board) (tricks : ℕ) → IsBoard p → Takes NorthSouth p tricks → Takes EastWest p (tricks_left p - tricks) → tricks ≤ tricks_left p → is_north_south (mover p) ≡ false → tricks_left p - tricks ≡ value_of p
value-east-west p tricks valid theirs others within e =
    sym (exactly EastWest p (tricks_left p - tricks) tricks valid others theirs (omega arith)) ∙ ap (λ side. won side p) (sym (east-west (side_of (mover p)) e))
  where
    east-west : (a : Side) → same_side a NorthSouth ≡ false → a ≡ EastWest
    east-west EastWest h = refl
    east-west NorthSouth h = absurd (cc)

-- at the start of a trick the value is the leader's
pub lead-value : (p : Board) → p.trick ≡ [] → leaders_tricks p ≡ value_of p
lead-value p start = leaders_tricks-won p ∙ ap (λ (cards : List PlayingCard). won (side_of (seat_after p.first (length cards))) p) (sym start)
