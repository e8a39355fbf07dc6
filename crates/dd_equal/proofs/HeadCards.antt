-- the highest cards of classes as the highest of sequences
use Rattle.std.proofs.Common.{◌≡◌, ℕ, ◌<◌, Bool, true, false, refl, sym, ap, ◌∙◌, arith, List, [], ◌∷◌, inl, inr, eq-eqb}
use Rattle.std.specs.Prelude.{filter, nat_lt, ◌&&◌, ◌||◌}
use Rattle.std.specs.List.{list_any}
use mathlib.Core.Bool.{not}
use mathlib.Core.Path.{ap₂}
use Rattle.std.proofs.lemmas.Bool.{eqb-true, ltb-true, and_from, or_left, or_right, or_cases}
use Rattle.dd_cards.specs.PlayingCard.{PlayingCard}
use Rattle.dd_cards.specs.Ranks.{IsRank}
use Rattle.dd_cards.specs.Suits.{suit_code}
use Rattle.dd_cards.specs.Cards.{deck, is_of, has_card}
use Rattle.dd_cards.specs.Sequences.{is_above, is_headed, heads}
use Rattle.dd_cards.proofs.CallerLemmas.{and-left, and-right, both-ways, has_card-deck, has_card-filter, real-set, any-some, any-of}
use Rattle.dd_cards.specs.declared.seat.Seat.{Seat}
use Rattle.dd_cards.specs.declared.seat.Seat.TheVariants.{North, East, South, West}
use Rattle.dd_cards.specs.Hands.{FourHands, hand_of}
use Rattle.dd_cards.specs.Seats.{seat_after}
use Rattle.dd_play.specs.Board.{Board, IsBoard, cards_at, mover}
use Rattle.dd_play.specs.InPlay.{is_in_hands, is_in_play}
use Rattle.dd_play.specs.Play.{legal}
use Rattle.dd_equal.specs.EqualCards.{other_cards, is_between, are_equal, is_top, tops}
use Rattle.dd_equal.proofs.Suits.{others-differ, others-split}
use Rattle.std.proofs.lemmas.List.Elements.{filter_agree}

any-same : (t u : PlayingCard → Bool) → ((d : PlayingCard) → t d ≡ u d) → (cards : List PlayingCard) → list_any t cards ≡ list_any u cards
any-same t u e [] = refl
any-same t u e (c ∷ cards) = rw (e c, any-same t u e cards) refl

-- what lies between a card and a higher one of its suit, either way
between-same : (c d : PlayingCard) (xs ys : List PlayingCard) → ((e : PlayingCard) → has_card xs e ≡ has_card ys e) → is_of c.suit d ≡ true → c.rank < d.rank
    → list_any (λ e. is_above c e && is_above e d) xs ≡ list_any (is_between c d) ys
between-same c d xs ys same suits higher = both-ways _ _ there back
  where
    there : list_any (λ e. is_above c e && is_above e d) xs ≡ true → list_any (is_between c d) ys ≡ true
    there h =
        let e = any-some (λ e. is_above c e && is_above e d) xs h in
        let up : is_above c e.0 ≡ true = and-left (is_above c e.0) (is_above e.0 d) e.2 in
        let down : is_above e.0 d ≡ true = and-right (is_above c e.0) (is_above e.0 d) e.2 in
        any-of (is_between c d) e.0 ys (sym (same e.0) ∙ e.1)
        (and_from (is_of c.suit e.0) _ (and-left (is_of c.suit e.0) (nat_lt c.rank e.0.rank) up)
        (or_left (nat_lt c.rank e.0.rank && nat_lt e.0.rank d.rank) _ (and_from _ _ (and-right (is_of c.suit e.0) (nat_lt c.rank e.0.rank) up) (and-right (is_of e.0.suit d) (nat_lt e.0.rank d.rank) down))))

    back : list_any (is_between c d) ys ≡ true → list_any (λ e. is_above c e && is_above e d) xs ≡ true
    back h =
        let e = any-some (is_between c d) ys h in
        let x : PlayingCard = e.0 in
        let of : is_of c.suit x ≡ true = and-left (is_of c.suit x) ((nat_lt c.rank x.rank && nat_lt x.rank d.rank) || (nat_lt d.rank x.rank && nat_lt x.rank c.rank)) e.2 in
        let either : ((nat_lt c.rank x.rank && nat_lt x.rank d.rank) || (nat_lt d.rank x.rank && nat_lt x.rank c.rank)) ≡ true = and-right (is_of c.suit x) _ e.2 in
        let one : suit_code x.suit ≡ suit_code c.suit = eqb-true _ _ of in
        let two : suit_code d.suit ≡ suit_code c.suit = eqb-true _ _ suits in
        elim (or_cases (nat_lt c.rank x.rank && nat_lt x.rank d.rank) (nat_lt d.rank x.rank && nat_lt x.rank c.rank) either) [
          | inl up ↦ any-of (λ e. is_above c e && is_above e d) x xs (same x ∙ e.1)
              (and_from (is_above c x) (is_above x d) (and_from (is_of c.suit x) _ of (and-left (nat_lt c.rank x.rank) _ up))
              (and_from (is_of x.suit d) _ (eq-eqb (suit_code d.suit) (suit_code x.suit) (two ∙ sym one)) (and-right (nat_lt c.rank x.rank) _ up)))
          | inr down ↦ absurd (
              let a : d.rank < x.rank = ltb-true _ _ (and-left (nat_lt d.rank x.rank) _ down) in
              let b : x.rank < c.rank = ltb-true _ _ (and-right (nat_lt d.rank x.rank) _ down) in
              omega (arith, a, b, higher))
        ]

-- a higher card of the sequence is a higher equal card
headed-same : (p : Board) (others : List PlayingCard) (c d : PlayingCard) → ((e : PlayingCard) → has_card others e ≡ has_card (other_cards p) e)
    → (is_above c d && not (list_any (λ e. is_above c e && is_above e d) others)) ≡ (are_equal p c d && nat_lt c.rank d.rank)
headed-same p others c d same = go (is_of c.suit d) (nat_lt c.rank d.rank) refl refl
  where
    go : (a l : Bool) → is_of c.suit d ≡ a → nat_lt c.rank d.rank ≡ l
        → ((a && l) && not (list_any (λ e. is_above c e && is_above e d) others)) ≡ ((a && not (list_any (is_between c d) (other_cards p))) && l)
    go false l e f = refl
    go true false e f = swap (not (list_any (is_between c d) (other_cards p)))
      where
        swap : (b : Bool) → false ≡ (b && false)
        swap true = refl
        swap false = refl
    go true true e f = ap not (between-same c d others (other_cards p) same e (ltb-true _ _ f)) ∙ swap (not (list_any (is_between c d) (other_cards p)))
      where
        swap : (b : Bool) → b ≡ (b && true)
        swap true = refl
        swap false = refl

pub tops-heads : (p : Board) (cards others : List PlayingCard) → cards ≡ legal p → ((e : PlayingCard) → has_card others e ≡ has_card (other_cards p) e) → heads cards others ≡ tops p
tops-heads p cards others are same =
    rw are (filter_agree (λ c. not (is_headed (legal p) others c)) (is_top p) (λ c. ap not (any-same _ _ (λ d. headed-same p others c d same) (legal p))) (legal p))

-- ---- the other cards as a set

-- has another seat the card?
abbrev is_anothers : FourHands → Seat → PlayingCard → Bool
is_anothers hands seat c =
    (has_card (hand_of hands (seat_after seat 1)) c || has_card (hand_of hands (seat_after seat 2)) c) || has_card (hand_of hands (seat_after seat 3)) c

-- all cards in play but the mover's
pub others-in-play : (p : Board) (all own cards : List PlayingCard) → IsBoard p → ((c : PlayingCard) → has_card all c ≡ is_in_play p c) → own ≡ cards_at p (mover p)
    → cards ≡ filter (λ c. not (has_card own c)) all → (c : PlayingCard) → has_card cards c ≡ has_card (other_cards p) c
others-in-play p all own cards valid play mine left c =
    ap (λ xs. has_card xs c) left ∙ has_card-filter (λ d. not (has_card own d)) all c
    ∙ ap₂ (λ x y. not x && y) (ap (λ xs. has_card xs c) mine) (play c)
    ∙ go (has_card (cards_at p (mover p)) c) (has_card (other_cards p) c) refl refl
  where
    one : (e s w : Bool) → ((false || e) || (s || w)) ≡ ((e || s) || w)
    one true true true = refl
    one true true false = refl
    one true false true = refl
    one true false false = refl
    one false true true = refl
    one false true false = refl
    one false false true = refl
    one false false false = refl

    two : (n s w : Bool) → ((n || false) || (s || w)) ≡ ((s || w) || n)
    two true true true = refl
    two true true false = refl
    two true false true = refl
    two true false false = refl
    two false true true = refl
    two false true false = refl
    two false false true = refl
    two false false false = refl

    three : (n e w : Bool) → ((n || e) || (false || w)) ≡ ((w || n) || e)
    three true true true = refl
    three true true false = refl
    three true false true = refl
    three true false false = refl
    three false true true = refl
    three false true false = refl
    three false false true = refl
    three false false false = refl

    four : (n e s : Bool) → ((n || e) || (s || false)) ≡ ((n || e) || s)
    four true true true = refl
    four true true false = refl
    four true false true = refl
    four true false false = refl
    four false true true = refl
    four false true false = refl
    four false false true = refl
    four false false false = refl

    -- the hands but the mover's, and the trick
    round : (hands : FourHands) (s : Seat) (t : Bool) (c : PlayingCard) → has_card (hand_of hands s) c ≡ false → (is_in_hands hands c || t) ≡ (is_anothers hands s c || t)
    round hands North t c e = ap (λ b. b || t) (ap (λ x. (x || has_card hands.east c) || (has_card hands.south c || has_card hands.west c)) e ∙ one (has_card hands.east c) (has_card hands.south c) (has_card hands.west c))
    round hands East t c e = ap (λ b. b || t) (ap (λ x. (has_card hands.north c || x) || (has_card hands.south c || has_card hands.west c)) e ∙ two (has_card hands.north c) (has_card hands.south c) (has_card hands.west c))
    round hands South t c e = ap (λ b. b || t) (ap (λ x. (has_card hands.north c || has_card hands.east c) || (x || has_card hands.west c)) e ∙ three (has_card hands.north c) (has_card hands.east c) (has_card hands.west c))
    round hands West t c e = ap (λ b. b || t) (ap (λ x. (has_card hands.north c || has_card hands.east c) || (has_card hands.south c || x)) e ∙ four (has_card hands.north c) (has_card hands.east c) (has_card hands.south c))

    go : (a b : Bool) → has_card (cards_at p (mover p)) c ≡ a → has_card (other_cards p) c ≡ b → (not (has_card (cards_at p (mover p)) c) && is_in_play p c) ≡ has_card (other_cards p) c
    go true true e f = absurd (others-differ p c valid e f)
    go true false e f = ap (λ x. not x && is_in_play p c) e ∙ sym f
    go false b e f = ap (λ x. not x && is_in_play p c) e ∙ round p.hands (mover p) (has_card p.trick c) c e ∙ sym (others-split p c)
