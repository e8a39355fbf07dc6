-- the bits below a card's in its suit, one by one
use Rattle.std.proofs.Common.{◌≡◌, ℕ, ◌+◌, ◌-◌, ◌/◌, ◌%◌, ◌^◌, ◌<◌, ◌≤◌, Bool, true, false, zero, suc, refl, sym, ap, ◌∙◌, arith, inl, inr, bit_and, bit_or, min, max}
use Rattle.std.specs.Prelude.{nat_lt, ◌==◌, ◌&&◌, ◌||◌, if◌then◌else◌}
use mathlib.Core.Path.{ap₂}
use Rattle.std.specs.Int.{bit_at}
use Rattle.std.proofs.lemmas.Bool.{cases_lt, eqb-true, le-ltb, lt-ltb, ltb-true, and_from, or_left, or_right, or_cases}
use Rattle.std.proofs.lemmas.Bool.Decides.{eqb_tells}
use Rattle.std.proofs.lemmas.Nat.{shr-shr}
use Rattle.std.proofs.lemmas.Nat.Bits.{bit_at-lt, bit_at_and, bit_at_or, bit_at_mask_inside, bit_at_mask_below, bit_at_mask_above, shr_and_one}
use Rattle.dd_cards.specs.PlayingCard.{PlayingCard}
use Rattle.dd_cards.specs.Suits.{suit_code, suit_shift}
use Rattle.dd_cards.specs.Ranks.{IsRank}
use Rattle.dd_cards.specs.Cards.{card_of, has_card, is_of, place_of}
use Rattle.dd_cards.specs.HandMasks.{IsHandMask, cards_of}
use Rattle.dd_cards.proofs.CallerLemmas.{and-left, and-right, both-ways, has_card-deck, same-members, suit_code-lt, has_card-cards_of}
use Rattle.dd_play.proofs.CallerLemmas.{of-suit', suit-of}
use Rattle.dd_relative.specs.Gaps.{raised}
use Rattle.dd_relative.specs.Runs.{next_above}
use Rattle.dd_relative.specs.WinningRanks.{AreTop, with_next}
use Rattle.dd_relative.proofs.Cards.{raised-below, raised-else}
use Rattle.dd_relative.proofs.Heads.{above-bit}
use Rattle.dd_relative.proofs.Joined.{next-has, next-set}
use Rattle.dd_relative.proofs.Moved.{cards-set}
use Rattle.dd_relative.proofs.Packs.{pack-cards, pack-mask}

-- a card's bit is one of those below another's where it is of its suit and lower
abbrev pub bits_below : PlayingCard → ℕ
bits_below g = 2 ^ place_of g - 2 ^ suit_shift g.suit

pub below-bit : (g d : PlayingCard) → IsRank g.rank → IsRank d.rank → bit_at (bits_below g) (place_of d) ≡ (if is_of g.suit d && nat_lt d.rank g.rank then 1 else 0)
below-bit g d real_g real = elim (eqb_tells (suit_code d.suit) (suit_code g.suit)) [
  | inl same ↦ elim (cases_lt d.rank g.rank) [
    | inl low ↦ (
        let e = same.1 in let k = suit_code-lt g.suit in
        bit_at_mask_inside (suit_shift g.suit) (place_of g) (place_of d) (omega (arith, e, k)) (omega (arith, e, k, low)) ∙ rw (same.0, lt-ltb d.rank g.rank low) refl)
    | inr high ↦ (
        let e = same.1 in let k = suit_code-lt g.suit in
        bit_at_mask_above (suit_shift g.suit) (place_of g) (place_of d) (omega (arith, e, k, high)) ∙ rw (same.0, le-ltb d.rank g.rank high) refl)
  ]
  | inr other ↦ elim (cases_lt (suit_code g.suit) (suit_code d.suit)) [
    | inl more ↦ (
        let k = suit_code-lt d.suit in let b = real.1 in
        bit_at_mask_below (suit_shift g.suit) (place_of g) (place_of d) (omega (arith, more, k, b)) ∙ rw other.0 refl)
    | inr less ↦ (
        let o = other.1 in let k = suit_code-lt g.suit in let t = real_g.1 in let b = real.0 in
        bit_at_mask_above (suit_shift g.suit) (place_of g) (place_of d) (omega (arith, less, o, k, t, b)) ∙ rw other.0 refl)
  ]
]

-- ---- the card raised
-- by the bit of its place
pub raised-by : (g d : PlayingCard) (below n bit : ℕ) → IsRank g.rank → IsRank d.rank → below ≡ bits_below g → n ≡ place_of d → bit ≡ bit_and (below / 2 ^ n) 1
    → (bit ≤ 1) × (d.rank + bit ≤ 14) × (card_of d.suit (d.rank + bit) ≡ raised g d)
raised-by g d below n bit real_g real eb en is = go (is_of g.suit d && nat_lt d.rank g.rank) refl
  where
    value : bit ≡ (if is_of g.suit d && nat_lt d.rank g.rank then 1 else 0)
    value = is ∙ shr_and_one below n ∙ ap₂ bit_at eb en ∙ below-bit g d real_g real

    go : (b : Bool) → (is_of g.suit d && nat_lt d.rank g.rank) ≡ b → (bit ≤ 1) × (d.rank + bit ≤ 14) × (card_of d.suit (d.rank + bit) ≡ raised g d)
    go true e =
        let one : bit ≡ 1 = value ∙ ap (λ (t : Bool). if t then 1 else 0) e in
        let low : d.rank < g.rank = ltb-true d.rank g.rank (and-right (is_of g.suit d) (nat_lt d.rank g.rank) e) in
        let top = real_g.1 in
        (omega (arith, one), omega (arith, one, low, top), ap (λ k. card_of d.suit (d.rank + k)) one ∙ sym (raised-below g d (suit-of g.suit d (and-left (is_of g.suit d) (nat_lt d.rank g.rank) e)) low))
    go false e =
        let none : bit ≡ 0 = value ∙ ap (λ (t : Bool). if t then 1 else 0) e in
        let top = real.1 in (
          omega (arith, none),
          omega (arith, none, top),
          ap (λ k. card_of d.suit k) (let s : d.rank + bit ≡ d.rank = omega (arith, none) in s) ∙ sym (raised-else g d (λ suit. elim (cases_lt d.rank g.rank) [
            | inr high ↦ high
            | inl low ↦ absurd (let no : true ≡ false = sym (and_from (is_of g.suit d) (nat_lt d.rank g.rank) (of-suit' g.suit d suit) (lt-ltb d.rank g.rank low)) ∙ e in cc)
          ])),
        )

-- ---- the next lower card of top cards
-- the bits of all cards
abbrev pub pack_bits : ℕ
pack_bits = 9222386859403673596

-- top cards with those one rank lower that are below the gap
abbrev pub run : ℕ → ℕ → ℕ
run m below = bit_or m (bit_and (bit_and (m / 2 ^ 1) below) pack_bits)

pub pack-bit : (d : PlayingCard) → IsRank d.rank → bit_at pack_bits (place_of d) ≡ 1
pack-bit d real = eqb-true (bit_at pack_bits (place_of d)) 1 (sym (has_card-cards_of pack_bits d real) ∙ ap (λ l. has_card l d) pack-cards ∙ has_card-deck d real)

pub run-mask : (m below : ℕ) → IsHandMask m → IsHandMask (run m below)
run-mask m below valid i set = elim (eqb_tells (bit_at m i) 1) [
  | inl same ↦ valid i same.1
  | inr other ↦ (
      let a : bit_at (run m below) i ≡ max (bit_at m i) (bit_at (bit_and (bit_and (m / 2 ^ 1) below) pack_bits) i) = bit_at_or m (bit_and (bit_and (m / 2 ^ 1) below) pack_bits) i in
      let b : bit_at (bit_and (bit_and (m / 2 ^ 1) below) pack_bits) i ≡ min (bit_at (bit_and (m / 2 ^ 1) below) i) (bit_at pack_bits i) = bit_at_and (bit_and (m / 2 ^ 1) below) pack_bits i in
      let l = bit_at-lt m i in let l2 = bit_at-lt (bit_and (m / 2 ^ 1) below) i in let l3 = bit_at-lt pack_bits i in
      let o = other.1 in
      pack-mask i (omega (arith, set, a, b, l, l2, l3, o)))
]

-- bits of a run
lower-bit : (b e : ℕ) (own : Bool) → b < 2 → e < 2 → (max b (min (min e (if own then 1 else 0)) 1) == 1) ≡ ((b == 1) || (own && (e == 1)))
lower-bit zero zero true lb le = refl
lower-bit zero zero false lb le = refl
lower-bit zero (suc zero) true lb le = refl
lower-bit zero (suc zero) false lb le = refl
lower-bit (suc zero) zero true lb le = refl
lower-bit (suc zero) zero false lb le = refl
lower-bit (suc zero) (suc zero) true lb le = refl
lower-bit (suc zero) (suc zero) false lb le = refl
lower-bit (suc (suc b)) e own lb le = absurd (omega (arith, lb))
lower-bit zero (suc (suc e)) own lb le = absurd (omega (arith, le))
lower-bit (suc zero) (suc (suc e)) own lb le = absurd (omega (arith, le))

-- a card has one of its suit above it that is no higher than the gap just where the gap is there and it may join
joins-same : (g d : PlayingCard) (cards : PlayingCard → Bool) → IsRank g.rank → IsRank d.rank → ((c e : PlayingCard) → cards c ≡ true → e.suit ≡ c.suit → c.rank ≤ e.rank → e.rank ≤ 14 → cards e ≡ true)
    → (cards d || ((is_of g.suit d && nat_lt d.rank g.rank) && cards (next_above d))) ≡ (cards d || (cards g && (is_of g.suit d && cards (next_above d))))
joins-same g d cards real_g real top =
    both-ways _ _
    (λ h. elim (or_cases (cards d) _ h) [
      | inl there ↦ or_left (cards d) _ there
      | inr joins ↦ (
          let below : (is_of g.suit d && nat_lt d.rank g.rank) ≡ true = and-left (is_of g.suit d && nat_lt d.rank g.rank) (cards (next_above d)) joins in
          let next : cards (next_above d) ≡ true = and-right (is_of g.suit d && nat_lt d.rank g.rank) (cards (next_above d)) joins in
          let of : is_of g.suit d ≡ true = and-left (is_of g.suit d) (nat_lt d.rank g.rank) below in
          let low : d.rank < g.rank = ltb-true d.rank g.rank (and-right (is_of g.suit d) (nat_lt d.rank g.rank) below) in
          or_right (cards d) _ (and_from (cards g) _ (top (next_above d) g next (sym (suit-of g.suit d of)) (omega (arith, low)) real_g.1) (and_from (is_of g.suit d) (cards (next_above d)) of next)))
    ])
    (λ h. elim (or_cases (cards d) _ h) [
      | inl there ↦ or_left (cards d) _ there
      | inr joins ↦ (
          let gap : cards g ≡ true = and-left (cards g) (is_of g.suit d && cards (next_above d)) joins in
          let rest : (is_of g.suit d && cards (next_above d)) ≡ true = and-right (cards g) (is_of g.suit d && cards (next_above d)) joins in
          let of : is_of g.suit d ≡ true = and-left (is_of g.suit d) (cards (next_above d)) rest in
          elim (cases_lt d.rank g.rank) [
            | inl low ↦ or_right (cards d) _ (and_from (is_of g.suit d && nat_lt d.rank g.rank) (cards (next_above d)) (and_from (is_of g.suit d) (nat_lt d.rank g.rank) of (lt-ltb d.rank g.rank low)) (and-right (is_of g.suit d) (cards (next_above d)) rest))
            | inr high ↦ or_left (cards d) _ (top g d gap (suit-of g.suit d of) high real.1)
          ])
    ])

pub run-cards : (m below : ℕ) (g : PlayingCard) → IsHandMask m → IsRank g.rank → AreTop (cards_of m) → below ≡ bits_below g → cards_of (run m below) ≡ with_next g (cards_of m)
run-cards m below g valid real_g top eb =
    same-members (cards_of (run m below)) (with_next g (cards_of m)) (cards-set _) (next-set g (cards_of m))
    (λ d real.
    has_card-cards_of (run m below) d real
    ∙ ap (λ x. x == 1) (
    bit_at_or m (bit_and (bit_and (m / 2 ^ 1) below) pack_bits) (place_of d)
    ∙ ap (max (bit_at m (place_of d))) (
    bit_at_and (bit_and (m / 2 ^ 1) below) pack_bits (place_of d)
    ∙ ap₂ min (
    bit_at_and (m / 2 ^ 1) below (place_of d)
    ∙ ap₂ min (ap (λ x. x % 2) (shr-shr m 1 (place_of d)) ∙ ap (bit_at m) (let e : 1 + place_of d ≡ place_of d + 1 = omega arith in e)) (ap (λ b. bit_at b (place_of d)) eb ∙ below-bit g d real_g real)) (pack-bit d real)))
    ∙ lower-bit (bit_at m (place_of d)) (bit_at m (place_of d + 1)) (is_of g.suit d && nat_lt d.rank g.rank) (bit_at-lt m (place_of d)) (bit_at-lt m (place_of d + 1))
    ∙ ap₂ (λ x y. x || ((is_of g.suit d && nat_lt d.rank g.rank) && y)) (sym (has_card-cards_of m d real)) (above-bit m d valid real)
    ∙ joins-same g d (has_card (cards_of m)) real_g real top
    ∙ sym (next-has g (cards_of m) d real))
