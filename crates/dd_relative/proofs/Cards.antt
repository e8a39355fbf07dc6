-- where cards stand when those below a gap move up, and where they stood
use Rattle.std.proofs.Common.{◌≡◌, ◌≢◌, ℕ, ◌+◌, ◌-◌, ◌<◌, ◌≤◌, ◌⊎◌, Bool, true, false, refl, sym, ap, ◌∙◌, arith, inl, inr, List, length, eq-eqb}
use Rattle.std.specs.Prelude.{nat_le, ◌&&◌}
use mathlib.Core.Path.{ap₂}
use Rattle.std.proofs.lemmas.Bool.{cases_lt, lt-ltb, le-ltb, le-leb, lt-leb}
use Rattle.std.proofs.lemmas.Bool.Decides.{eqb_tells}
use Rattle.dd_cards.specs.PlayingCard.{PlayingCard}
use Rattle.dd_cards.specs.Suits.{suit_code}
use Rattle.dd_cards.specs.Ranks.{IsRank}
use Rattle.dd_cards.specs.Cards.{card_of, deck, has_card, same_card}
use Rattle.dd_cards.specs.Hands.{IsSet}
use Rattle.dd_cards.proofs.CallerLemmas.{IsSet-deck, IsSet-filter, and-true, filter-true, has_card-deck, has_card-filter, real-set, same_card-eq, suit_code-injective, times-set}
use Rattle.dd_play.proofs.CallerLemmas.{count, inject, of-suit'}
use Rattle.dd_relative.specs.Gaps.{raised, lowered, moved_up}

-- ---- one card
-- below the gap in its suit, or not
pub low-or : (g c : PlayingCard) → ((c.suit ≡ g.suit) × (c.rank < g.rank)) ⊎ (c.suit ≡ g.suit → g.rank ≤ c.rank)
low-or g c = elim (eqb_tells (suit_code c.suit) (suit_code g.suit)) [
  | inl same ↦ elim (cases_lt c.rank g.rank) [ inl low ↦ inl (suit_code-injective c.suit g.suit same.1, low) | inr high ↦ inr (λ _. high) ]
  | inr other ↦ inr (λ e. absurd (other.1 (ap suit_code e)))
]

-- at or below the gap in its suit, or not
pub high-or : (g d : PlayingCard) → ((d.suit ≡ g.suit) × (d.rank ≤ g.rank)) ⊎ (d.suit ≡ g.suit → g.rank < d.rank)
high-or g d = elim (eqb_tells (suit_code d.suit) (suit_code g.suit)) [
  | inl same ↦ elim (cases_lt g.rank d.rank) [ inl high ↦ inr (λ _. high) | inr low ↦ inl (suit_code-injective d.suit g.suit same.1, low) ]
  | inr other ↦ inr (λ e. absurd (other.1 (ap suit_code e)))
]

pub raised-below : (g c : PlayingCard) → c.suit ≡ g.suit → c.rank < g.rank → raised g c ≡ card_of c.suit (c.rank + 1)
raised-below g c same low = rw (of-suit' g.suit c same, lt-ltb c.rank g.rank low) refl

pub raised-else : (g c : PlayingCard) → (c.suit ≡ g.suit → g.rank ≤ c.rank) → raised g c ≡ c
raised-else g c high = elim (eqb_tells (suit_code c.suit) (suit_code g.suit)) [
  | inl same ↦ rw (same.0, le-ltb c.rank g.rank (high (suit_code-injective c.suit g.suit same.1))) refl
  | inr other ↦ rw other.0 refl
]

pub lowered-below : (g d : PlayingCard) → d.suit ≡ g.suit → d.rank ≤ g.rank → lowered g d ≡ card_of d.suit (d.rank - 1)
lowered-below g d same low = rw (of-suit' g.suit d same, le-leb d.rank g.rank low) refl

pub lowered-else : (g d : PlayingCard) → (d.suit ≡ g.suit → g.rank < d.rank) → lowered g d ≡ d
lowered-else g d high = elim (eqb_tells (suit_code d.suit) (suit_code g.suit)) [
  | inl same ↦ rw (same.0, lt-leb d.rank g.rank (high (suit_code-injective d.suit g.suit same.1))) refl
  | inr other ↦ rw other.0 refl
]

-- a card by its parts
parts : (c : PlayingCard) (r : ℕ) → r ≡ c.rank → card_of c.suit r ≡ c
parts c r e = ap (card_of c.suit) e

-- the suit stays
pub raised-suit : (g c : PlayingCard) → (raised g c).suit ≡ c.suit
raised-suit g c = elim (low-or g c) [
  | inl low ↦ ap (λ (x : PlayingCard). x.suit) (raised-below g c low.0 low.1)
  | inr high ↦ ap (λ (x : PlayingCard). x.suit) (raised-else g c high)
]

pub lowered-suit : (g d : PlayingCard) → (lowered g d).suit ≡ d.suit
lowered-suit g d = elim (high-or g d) [
  | inl low ↦ ap (λ (x : PlayingCard). x.suit) (lowered-below g d low.0 low.1)
  | inr high ↦ ap (λ (x : PlayingCard). x.suit) (lowered-else g d high)
]

-- down again, of a card that doesn't stand at the gap
pub lowered-raised : (g c : PlayingCard) → (c.suit ≡ g.suit → c.rank ≢ g.rank) → lowered g (raised g c) ≡ c
lowered-raised g c apart = elim (low-or g c) [
  | inl low ↦ (
      let less = low.1 in
      ap (lowered g) (raised-below g c low.0 low.1) ∙ lowered-below g (card_of c.suit (c.rank + 1)) low.0 (omega (arith, less)) ∙ parts c (c.rank + 1 - 1) (omega arith))
  | inr high ↦ ap (lowered g) (raised-else g c high) ∙ lowered-else g c (λ e. let h = high e in let d = apart e in omega (arith, h, d))
]

-- up again
pub raised-lowered : (g d : PlayingCard) → 1 ≤ d.rank → raised g (lowered g d) ≡ d
raised-lowered g d some = elim (high-or g d) [
  | inl low ↦ (
      let most = low.1 in
      ap (raised g) (lowered-below g d low.0 low.1) ∙ raised-below g (card_of d.suit (d.rank - 1)) low.0 (omega (arith, most, some)) ∙ parts d (d.rank - 1 + 1) (omega (arith, some)))
  | inr high ↦ ap (raised g) (lowered-else g d high) ∙ raised-else g d (λ e. let h = high e in omega (arith, h))
]

-- what is moved up is real
pub raised-real : (g c : PlayingCard) → IsRank g.rank → IsRank c.rank → IsRank (raised g c).rank
raised-real g c top real = elim (low-or g c) [
  | inl low ↦ (
      let e : (raised g c).rank ≡ c.rank + 1 = ap (λ (x : PlayingCard). x.rank) (raised-below g c low.0 low.1) in
      let less = low.1 in let a = real.0 in let b = top.1 in (omega (arith, e, a), omega (arith, e, less, b)))
  | inr high ↦ (
      let e : (raised g c).rank ≡ c.rank = ap (λ (x : PlayingCard). x.rank) (raised-else g c high) in
      let a = real.0 in let b = real.1 in (omega (arith, e, a), omega (arith, e, b)))
]

-- two tests of numbers that agree
same-test : (a b c d : ℕ) → (a ≤ b → c ≤ d) → (c ≤ d → a ≤ b) → nat_le a b ≡ nat_le c d
same-test a b c d forth back = elim (cases_lt b a) [
  | inl more ↦ lt-leb a b more ∙ sym (lt-leb c d (elim (cases_lt d c) [ inl l ↦ l | inr l ↦ absurd (let h = back l in omega (arith, h, more)) ]))
  | inr less ↦ le-leb a b less ∙ sym (le-leb c d (forth less))
]

-- the order stays
pub raised-order : (g c d : PlayingCard) → (c.suit ≡ g.suit → c.rank ≢ g.rank) → (d.suit ≡ g.suit → d.rank ≢ g.rank) → c.suit ≡ d.suit
    → nat_le (raised g c).rank (raised g d).rank ≡ nat_le c.rank d.rank
raised-order g c d apart_c apart_d suits = go (low-or g c) (low-or g d)
  where
    rank_of : PlayingCard → ℕ
    rank_of x = x.rank

    go : ((c.suit ≡ g.suit) × (c.rank < g.rank)) ⊎ (c.suit ≡ g.suit → g.rank ≤ c.rank) → ((d.suit ≡ g.suit) × (d.rank < g.rank)) ⊎ (d.suit ≡ g.suit → g.rank ≤ d.rank)
        → nat_le (raised g c).rank (raised g d).rank ≡ nat_le c.rank d.rank
    go (inl lc) (inl ld) =
        ap₂ (λ x y. nat_le (rank_of x) (rank_of y)) (raised-below g c lc.0 lc.1) (raised-below g d ld.0 ld.1)
        ∙ same-test (c.rank + 1) (d.rank + 1) c.rank d.rank (λ h. omega (arith, h)) (λ h. omega (arith, h))
    go (inl lc) (inr hd) =
        let a = lc.1 in let b = hd (sym suits ∙ lc.0) in
        ap₂ (λ x y. nat_le (rank_of x) (rank_of y)) (raised-below g c lc.0 lc.1) (raised-else g d hd)
        ∙ same-test (c.rank + 1) d.rank c.rank d.rank (λ h. omega (arith, h)) (λ h. omega (arith, a, b))
    go (inr hc) (inl ld) =
        let a = hc (suits ∙ ld.0) in let b = ld.1 in let e = apart_c (suits ∙ ld.0) in
        ap₂ (λ x y. nat_le (rank_of x) (rank_of y)) (raised-else g c hc) (raised-below g d ld.0 ld.1)
        ∙ same-test c.rank (d.rank + 1) c.rank d.rank (λ h. omega (arith, h, a, b, e)) (λ h. omega (arith, h))
    go (inr hc) (inr hd) = ap₂ (λ x y. nat_le (rank_of x) (rank_of y)) (raised-else g c hc) (raised-else g d hd)

-- what stood at or below stood no higher than what stands no lower
pub lowered-order : (g c d : PlayingCard) → c.suit ≡ d.suit → c.rank ≤ d.rank → (lowered g c).rank ≤ (lowered g d).rank
lowered-order g c d suits less = go (high-or g c) (high-or g d)
  where
    rank_of : PlayingCard → ℕ
    rank_of x = x.rank

    go : ((c.suit ≡ g.suit) × (c.rank ≤ g.rank)) ⊎ (c.suit ≡ g.suit → g.rank < c.rank) → ((d.suit ≡ g.suit) × (d.rank ≤ g.rank)) ⊎ (d.suit ≡ g.suit → g.rank < d.rank)
        → (lowered g c).rank ≤ (lowered g d).rank
    go (inl lc) (inl ld) = (let a = ap rank_of (lowered-below g c lc.0 lc.1) in let b = ap rank_of (lowered-below g d ld.0 ld.1) in omega (arith, a, b, less))
    go (inl lc) (inr hd) = (let a = ap rank_of (lowered-below g c lc.0 lc.1) in let b = ap rank_of (lowered-else g d hd) in omega (arith, a, b, less))
    go (inr hc) (inl ld) = absurd (let a = hc (suits ∙ ld.0) in let b = ld.1 in omega (arith, a, b, less))
    go (inr hc) (inr hd) = (let a = ap rank_of (lowered-else g c hc) in let b = ap rank_of (lowered-else g d hd) in omega (arith, a, b, less))

-- no card stands higher than it stands afterwards
pub lowered-most : (g d : PlayingCard) → (lowered g d).rank ≤ d.rank
lowered-most g d = elim (high-or g d) [
  | inl low ↦ (let a = ap (λ (x : PlayingCard). x.rank) (lowered-below g d low.0 low.1) in omega (arith, a))
  | inr high ↦ (let a = ap (λ (x : PlayingCard). x.rank) (lowered-else g d high) in omega (arith, a))
]

-- no card came from the gap
pub lowered-apart : (g d : PlayingCard) → 1 ≤ d.rank → same_card g (lowered g d) ≡ false
lowered-apart g d some = go (same_card g (lowered g d)) refl
  where
    rank_of : PlayingCard → ℕ
    rank_of x = x.rank

    go : (b : Bool) → same_card g (lowered g d) ≡ b → b ≡ false
    go false e = refl
    go true e = absurd (
        let here : g ≡ lowered g d = same_card-eq g (lowered g d) e in
        elim (high-or g d) [
          | inl low ↦ (let a = ap rank_of (here ∙ lowered-below g d low.0 low.1) in let b = low.1 in omega (arith, a, b, some))
          | inr high ↦ (
              let same : g ≡ d = here ∙ lowered-else g d high in
              let h = high (ap (λ (x : PlayingCard). x.suit) (sym same)) in
              let e = ap rank_of same in omega (arith, h, e))
        ])

-- ---- a hand
-- it is a set
pub moved-set : (g : PlayingCard) (cards : List PlayingCard) → IsSet (moved_up g cards)
unfolding moved_up
moved-set g cards = IsSet-filter (λ d. has_card cards (lowered g d)) deck IsSet-deck

-- of the cards that stood where they came from
pub moved-has : (g : PlayingCard) (cards : List PlayingCard) (d : PlayingCard) → IsRank d.rank → has_card (moved_up g cards) d ≡ has_card cards (lowered g d)
unfolding moved_up
moved-has g cards d real =
    has_card-filter (λ x. has_card cards (lowered g x)) deck d ∙ ap (λ b. has_card cards (lowered g d) && b) (has_card-deck d real) ∙ sym (and-true (has_card cards (lowered g d)))

-- where a card came from
pub moved-back : (g : PlayingCard) (cards : List PlayingCard) (d : PlayingCard) → has_card (moved_up g cards) d ≡ true
    → IsRank d.rank × (has_card cards (lowered g d) ≡ true) × (raised g (lowered g d) ≡ d)
moved-back g cards d has =
    let real = real-set (moved_up g cards) d (moved-set g cards) has in
    let low = real.0 in
    (real, sym (moved-has g cards d real) ∙ has, raised-lowered g d (omega (arith, low)))

-- a card of a hand that has none at the gap doesn't stand there
pub is-apart : (g : PlayingCard) (cards : List PlayingCard) (c : PlayingCard) → has_card cards g ≡ false → has_card cards c ≡ true → c.suit ≡ g.suit → c.rank ≢ g.rank
is-apart g cards c none has suits ranks =
    let same : c ≡ g = same_card-eq c g (rw (eq-eqb (suit_code c.suit) (suit_code g.suit) (ap suit_code suits), eq-eqb c.rank g.rank ranks) refl) in
    let no : true ≡ false = sym has ∙ ap (has_card cards) same ∙ none in
    absurd (cc)

-- where a card goes
pub moved-forth : (g : PlayingCard) (cards : List PlayingCard) (c : PlayingCard) → IsSet cards → IsRank g.rank → has_card cards g ≡ false → has_card cards c ≡ true
    → (has_card (moved_up g cards) (raised g c) ≡ true) × (lowered g (raised g c) ≡ c)
moved-forth g cards c set real none has =
    let back = lowered-raised g c (is-apart g cards c none has) in
    (moved-has g cards (raised g c) (raised-real g c real (real-set cards c set has)) ∙ ap (has_card cards) back ∙ has, back)

-- no more cards
pub moved-fewer : (g : PlayingCard) (cards : List PlayingCard) → length (moved_up g cards) ≤ length cards
moved-fewer g cards =
    let fewer : count (λ _. true) (moved_up g cards) ≤ count (λ _. true) cards = inject (lowered g) (raised g) (λ _. true) (λ _. true) (moved_up g cards) cards (λ c. times-set (moved_up g cards) c (moved-set g cards))
    (λ d has t. let b = moved-back g cards d has in (b.1, refl, b.2)) in
    let a : count (λ _. true) cards ≡ length cards = ap length (filter-true cards) in
    let b : count (λ _. true) (moved_up g cards) ≡ length (moved_up g cards) = ap length (filter-true (moved_up g cards)) in
    omega (arith, fewer, a, b)

-- as many, where none stands at the gap
pub moved-length : (g : PlayingCard) (cards : List PlayingCard) → IsSet cards → IsRank g.rank → has_card cards g ≡ false → length (moved_up g cards) ≡ length cards
moved-length g cards set real none =
    let fewer : count (λ _. true) cards ≤ count (λ _. true) (moved_up g cards) = inject (raised g) (lowered g) (λ _. true) (λ _. true) cards (moved_up g cards) (λ c. times-set cards c set)
    (λ c has t. let f = moved-forth g cards c set real none has in (f.0, refl, f.1)) in
    let more = moved-fewer g cards in
    let a : count (λ _. true) cards ≡ length cards = ap length (filter-true cards) in
    let b : count (λ _. true) (moved_up g cards) ≡ length (moved_up g cards) = ap length (filter-true (moved_up g cards)) in
    omega (arith, fewer, more, a, b)
