-- positions that cover one another at depths are related
use Rattle.std.proofs.Common.{◌≡◌, ℕ, ◌+◌, ◌<◌, ◌≤◌, Bool, true, false, refl, sym, ap, ◌∙◌, arith, List, [], ◌∷◌, ◌++◌, zero-le}
use Rattle.std.specs.Prelude.{nat_le}
use Rattle.std.specs.List.{list_any}
use Rattle.std.proofs.lemmas.Bool.{le-leb, leb-true, or_left, or_right, false_from_ne_true}
use Rattle.std.proofs.Common.{eq-eqb}
use Rattle.std.proofs.lemmas.Bool.Decides.{nat_tests}
use Rattle.std.proofs.lemmas.List.Folds.{list_any-append}
use Rattle.dd_cards.specs.declared.seat.Seat.{Seat}
use Rattle.dd_cards.specs.declared.seat.Seat.TheVariants.{North, East, South, West}
use Rattle.dd_cards.specs.PlayingCard.{PlayingCard}
use Rattle.dd_cards.specs.Suits.{suit_code}
use Rattle.dd_cards.specs.Cards.{same_card, has_card}
use Rattle.dd_cards.proofs.CallerLemmas.{same_card-eq}
use Rattle.dd_play.specs.Board.{Board, cards_at}
use Rattle.dd_play.proofs.CallerLemmas.{count, count-cons, flag_of, has-first, in-rest, above-is, above-suit, above-rank}
use Rattle.dd_rank.specs.Depths.{all_cards, place}
use Rattle.dd_cards.specs.Sequences.{is_above}

-- ---- counts of a smaller and a larger part
pub count-le : (test wider : PlayingCard → Bool) (cards : List PlayingCard) → ((e : PlayingCard) → has_card cards e ≡ true → test e ≡ true → wider e ≡ true) → count test cards ≤ count wider cards
count-le test wider [] each = zero-le
count-le test wider (c ∷ cards) each =
    let ih = count-le test wider cards (λ e h t. each e (in-rest c e cards h) t) in
    let a = count-cons test c cards in
    let b = count-cons wider c cards in
    let f = flags (test c) (wider c) (λ t. each c (has-first c cards) t) in
    omega (arith, ih, a, b, f)
  where
    flags : (a b : Bool) → (a ≡ true → b ≡ true) → flag_of a ≤ flag_of b
    flags true true h = omega arith
    flags true false h = absurd (let k : false ≡ true = h refl in cc)
    flags false b h = zero-le

-- .. and more where one card passes the wider test alone
pub count-lt : (test wider : PlayingCard → Bool) (cards : List PlayingCard) → ((e : PlayingCard) → test e ≡ true → wider e ≡ true) → (z : PlayingCard) → has_card cards z ≡ true → wider z ≡ true → test z ≡ false
    → count test cards + 1 ≤ count wider cards
count-lt test wider [] each z has wide out = absurd (cc)
count-lt test wider (c ∷ cards) each z has wide out = go (same_card c z) refl (λ h. count-lt test wider cards each z h wide out)
  where
    flags : (a b : Bool) → (a ≡ true → b ≡ true) → flag_of a ≤ flag_of b
    flags true true h = omega arith
    flags true false h = absurd (let k : false ≡ true = h refl in cc)
    flags false b h = zero-le

    go : (b : Bool) → same_card c z ≡ b → (has_card cards z ≡ true → count test cards + 1 ≤ count wider cards) → count test (c ∷ cards) + 1 ≤ count wider (c ∷ cards)
    go true e ih =
        let same : c ≡ z = same_card-eq c z e in
        let rest = count-le test wider cards (λ y h t. each y t) in
        let a = count-cons test c cards in
        let b = count-cons wider c cards in
        let f : flag_of (test c) ≡ 0 = ap (λ y. flag_of (test y)) same ∙ ap flag_of out in
        let g : flag_of (wider c) ≡ 1 = ap (λ y. flag_of (wider y)) same ∙ ap flag_of wide in
        omega (arith, rest, a, b, f, g)
    go false e ih =
        let r = ih (rw e at has) in
        let a = count-cons test c cards in
        let b = count-cons wider c cards in
        let f = flags (test c) (wider c) (λ t. each c t) in
        omega (arith, r, a, b, f)

-- ---- places
-- a higher card has a smaller place
pub place-lt : (p : Board) (c d : PlayingCard) → has_card (all_cards p) d ≡ true → d.suit ≡ c.suit → c.rank < d.rank → place p d + 1 ≤ place p c
place-lt p c d has suits h =
    count-lt (is_above d) (is_above c) (all_cards p)
    (λ e t. above-is c e (above-suit d e t ∙ suits) (let k = above-rank d e t in omega (arith, k, h)))
    d has (above-is c d suits h) (false_from_ne_true _ (λ t. let k = above-rank d d t in omega (arith, k)))

-- a card that is no lower has a place that is no greater
pub place-le : (p : Board) (c d : PlayingCard) → d.suit ≡ c.suit → c.rank ≤ d.rank → place p d ≤ place p c
place-le p c d suits h =
    count-le (is_above d) (is_above c) (all_cards p) (λ e has t. above-is c e (above-suit d e t ∙ suits) (let k = above-rank d e t in omega (arith, k, h)))

-- the ranks of two cards of a suit, by their places
pub order-place : (p : Board) (c d : PlayingCard) → has_card (all_cards p) c ≡ true → d.suit ≡ c.suit → nat_le c.rank d.rank ≡ nat_le (place p d) (place p c)
order-place p c d has suits = go (nat_le c.rank d.rank) refl
  where
    lower : (a b : ℕ) → nat_le a b ≡ false → b < a
    lower a b h = grind (arith, nat_tests)

    strictly : (a b : ℕ) → a < b → nat_le b a ≡ false
    strictly a b h = grind (arith, nat_tests)

    go : (b : Bool) → nat_le c.rank d.rank ≡ b → nat_le c.rank d.rank ≡ nat_le (place p d) (place p c)
    go true e = e ∙ sym (le-leb _ _ (place-le p c d suits (leb-true _ _ e)))
    go false e = e ∙ sym (strictly (place p c) (place p d) (let k = place-lt p d c has (sym suits) (lower c.rank d.rank e) in omega (arith, k)))

-- a place has one card
pub place-one : (p : Board) (c d : PlayingCard) → has_card (all_cards p) c ≡ true → has_card (all_cards p) d ≡ true → d.suit ≡ c.suit → place p d ≡ place p c → d ≡ c
place-one p c d hc hd suits e =
    same_card-eq d c (rw (eq-eqb (suit_code d.suit) (suit_code c.suit) (ap suit_code suits), eq-eqb d.rank c.rank ranks) refl)
  where
    below : (a b : ℕ) → (a < b → ⊥) → b ≤ a
    below a b h = omega (arith, h)

    ranks : d.rank ≡ c.rank
    ranks =
        let a : d.rank ≤ c.rank = below c.rank d.rank (λ h. let k = place-lt p c d hd suits h in omega (arith, k, e)) in
        let b : c.rank ≤ d.rank = below d.rank c.rank (λ h. let k = place-lt p d c hc (sym suits) h in omega (arith, k, e)) in
        omega (arith, a, b)

-- a card of a hand is one of all
pub in-all : (p : Board) (x : Seat) (c : PlayingCard) → has_card (cards_at p x) c ≡ true → has_card (all_cards p) c ≡ true
in-all p x c = go x
  where
    test : PlayingCard → Bool
    test d = same_card d c

    n : List PlayingCard
    n = cards_at p North

    e : List PlayingCard
    e = cards_at p East

    s : List PlayingCard
    s = cards_at p South

    w : List PlayingCard
    w = cards_at p West

    left : (xs ys : List PlayingCard) → list_any test xs ≡ true → list_any test (xs ++ ys) ≡ true
    left xs ys h = list_any-append test xs ys ∙ or_left _ _ h

    right : (xs ys : List PlayingCard) → list_any test ys ≡ true → list_any test (xs ++ ys) ≡ true
    right xs ys h = list_any-append test xs ys ∙ or_right _ _ h

    go : (x : Seat) → has_card (cards_at p x) c ≡ true → has_card (all_cards p) c ≡ true
    go North h = left ((n ++ e) ++ s) w (left (n ++ e) s (left n e h))
    go East h = left ((n ++ e) ++ s) w (left (n ++ e) s (right n e h))
    go South h = left ((n ++ e) ++ s) w (right (n ++ e) s h)
    go West h = right ((n ++ e) ++ s) w h
