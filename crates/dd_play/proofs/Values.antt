-- what a card that is played does to the number of cards, and the value by one step
use Rattle.std.proofs.Common.{◌≡◌, ℕ, zero, suc, ◌+◌, ◌≤◌, Bool, true, false, cond, refl, ap, ◌∙◌, arith, List, [], ◌∷◌, length, eq-eqb}
use Rattle.dd_cards.specs.Suits.{suit_code}
use Rattle.std.specs.Prelude.{filter, map, ◌||◌}
use mathlib.Core.Bool.{not}
use Rattle.std.proofs.lemmas.List.Filters.{length-filter_both}
use Rattle.dd_cards.specs.declared.seat.Seat.{Seat}
use Rattle.dd_cards.specs.declared.seat.Seat.TheVariants.{North, East, South, West}
use Rattle.dd_cards.specs.PlayingCard.{PlayingCard}
use Rattle.dd_cards.specs.Cards.{is_of, same_card, has_card, without}
use Rattle.dd_cards.specs.Hands.{FourHands, hand_of, with_hand, times}
use Rattle.dd_cards.specs.Sides.{side_of}
use Rattle.dd_play.specs.Board.{Board, IsBoard, cards_at, mover, cards_left}
use Rattle.dd_play.specs.Tricks.{or_else}
use Rattle.dd_cards.proofs.CallerLemmas.{any-filter, times-cons, times-set, times-has}
use Rattle.dd_play.specs.Play.{legal, following, completes, hands_after, after}
use Rattle.dd_play.specs.Value.{best, gain, ns_within, ns, ns_with}
use Rattle.std.proofs.lemmas.Bool.{or_right}

-- a legal card is in the hand
pub in-following : (trick hand : List PlayingCard) (c : PlayingCard) → has_card (following trick hand) c ≡ true → has_card hand c ≡ true
in-following [] hand c h = h
in-following (led ∷ rest) hand c h = go (filter (is_of led.suit) hand) (λ k. any-filter (λ d. same_card d c) (is_of led.suit) hand k) h
  where
    go : (same : List PlayingCard) → (has_card same c ≡ true → has_card hand c ≡ true) → has_card (or_else same hand) c ≡ true → has_card hand c ≡ true
    go [] f h = h
    go (d ∷ same) f h = f h

-- a card that stands once is taken out
pub length-without : (cards : List PlayingCard) (c : PlayingCard) → times cards c ≤ 1 → has_card cards c ≡ true → length (without cards c) + 1 ≡ length cards
length-without cards c once has =
    let e = length-filter_both (λ d. same_card d c) (λ d. not (same_card d c)) (λ d. refl) cards in
    let k = times-has cards c has in
    omega arith

-- the number of cards in the four hands
unfoldable pub total : FourHands → ℕ
total hands = length (hand_of hands North) + length (hand_of hands East) + length (hand_of hands South) + length (hand_of hands West)

-- one hand loses a card
pub total-with_hand : (hands : FourHands) (s : Seat) (cards : List PlayingCard) → length cards + 1 ≡ length (hand_of hands s) → total (with_hand hands s cards) + 1 ≡ total hands
unfolding total
total-with_hand hands North cards e = omega arith
total-with_hand hands East cards e = omega arith
total-with_hand hands South cards e = omega arith
total-with_hand hands West cards e = omega arith

-- two boards of the same hands
pub pick : (b : Bool) (r s : Board) (hands : FourHands) → r.hands ≡ hands → s.hands ≡ hands → (cond b r s).hands ≡ hands
pick true r s hands e f = e
pick false r s hands e f = f

-- whether or not the trick is complete, the hands are those without the card
pub hands-after : (p : Board) (c : PlayingCard) → (after p c).hands ≡ hands_after p c
hands-after p c = pick (completes p) _ _ _ refl refl

-- a legal card leaves one card fewer
pub cards_left-after : (p : Board) (c : PlayingCard) → IsBoard p → has_card (legal p) c ≡ true → cards_left (after p c) + 1 ≡ cards_left p
unfolding total
cards_left-after p c valid has =
    let own : has_card (cards_at p (mover p)) c ≡ true = in-following p.trick (cards_at p (mover p)) c has in
    ap (λ hands. total hands + 1) (hands-after p c)
    ∙ total-with_hand p.hands (mover p) (without (cards_at p (mover p)) c) (length-without (cards_at p (mover p)) c (times-set (cards_at p (mover p)) c (valid.sets (mover p))) own)

-- two functions that agree on the cards of a list
pub map-where : (f g : PlayingCard → ℕ) (cards : List PlayingCard) → ((c : PlayingCard) → has_card cards c ≡ true → f c ≡ g c) → map f cards ≡ map g cards
map-where f g [] e = refl
map-where f g (c ∷ cards) e =
    let here : has_card (c ∷ cards) c ≡ true = rw (eq-eqb (suit_code c.suit) (suit_code c.suit) refl, eq-eqb c.rank c.rank refl) refl in
    rw (e c here, map-where f g cards (λ d has. e d (or_right (same_card c d) (has_card cards d) has))) refl

-- the value is the best of the values after each legal card
pub ns-legal : (p : Board) → IsBoard p → ns p ≡ best (side_of (mover p)) (map (ns_with p) (legal p))
unfolding ns_within
ns-legal p valid = go (cards_left p) refl
  where
    step : (c : PlayingCard) → has_card (legal p) c ≡ true → cards_left (after p c) + 1 ≡ cards_left p
    step c has = cards_left-after p c valid has

    none : (cards : List PlayingCard) → ((c : PlayingCard) → has_card cards c ≡ true → cards_left (after p c) + 1 ≡ cards_left p) → cards_left p ≡ 0 → 0 ≡ best (side_of (mover p)) (map (ns_with p) cards)
    none [] f e = refl
    none (c ∷ cards) f e =
        let here : has_card (c ∷ cards) c ≡ true = rw (eq-eqb (suit_code c.suit) (suit_code c.suit) refl, eq-eqb c.rank c.rank refl) refl in
        absurd (let k = f c here in omega arith)

    go : (n : ℕ) → cards_left p ≡ n → ns p ≡ best (side_of (mover p)) (map (ns_with p) (legal p))
    go zero e = ap (λ n. ns_within n p) e ∙ none (legal p) step e
    go (suc n) e =
        ap (λ n. ns_within n p) e
        ∙ ap (best (side_of (mover p))) (map-where (λ c. gain p c + ns_within n (after p c)) (ns_with p) (legal p) (λ c has.
        let same : n ≡ cards_left (after p c) = (let k = step c has in omega arith) in
        ap (λ k. gain p c + ns_within k (after p c)) same))
