-- the bits of a suit from the lowest that is set up
use Rattle.std.proofs.Common.{◌≡◌, ℕ, zero, suc, ◌+◌, ◌-◌, ◌*◌, ◌/◌, ◌%◌, ◌^◌, ◌<◌, ◌≤◌, ◌⊎◌, true, refl, sym, ap, ◌∙◌, subst, arith, inl, inr, bit_and, bit_or, min, max, eq-eqb}
use mathlib.Core.Path.{ap₂}
use Rattle.std.specs.Int.{bit_at}
use Rattle.std.proofs.lemmas.Bool.{cases_lt, eqb-true}
use Rattle.std.proofs.lemmas.Bool.Decides.{eqb_tells}
use Rattle.std.proofs.Math.Nat.{div-lt_iff_lt-mul}
use Rattle.std.proofs.lemmas.Nat.{mod_below, pow-add, pow_pos, shr-shr, shr_high, shr_split}
use Rattle.std.proofs.lemmas.Nat.Bits.{bit_at-lt, bit_at_and, bit_at_or, bit_at_cat_low}
use Rattle.dd_cards.specs.declared.suit.Suit.{Suit}
use Rattle.dd_cards.specs.declared.suit.Suit.TheVariants.{Spades, Hearts, Diamonds, Clubs}
use Rattle.dd_cards.specs.PlayingCard.{PlayingCard}
use Rattle.dd_cards.specs.Suits.{suit_shift}
use Rattle.dd_cards.specs.Ranks.{IsRank}
use Rattle.dd_cards.specs.Cards.{has_card, place_of}
use Rattle.dd_cards.specs.HandMasks.{IsHandMask, cards_of}
use Rattle.dd_cards.proofs.CallerLemmas.{real-set, suit_code-lt, has_card-cards_of}
use Rattle.dd_relative.specs.WinningRanks.{AreTop}
use Rattle.dd_relative.proofs.Bits.{pack-bit, pack_bits}
use Rattle.dd_relative.proofs.Moved.{cards-set}
use Rattle.dd_relative.proofs.Packs.{pack-mask}

-- the bit above each suit's ace
abbrev pub guard_bits : ℕ
guard_bits = 9223512776490647552

-- the bits of a suit, of a number
abbrev lane : ℕ → Suit → ℕ
lane m u = m / 2 ^ suit_shift u % 2 ^ 16

-- of four numbers the suit's
abbrev by_suit : ℕ → ℕ → ℕ → ℕ → Suit → ℕ
by_suit s h d c Spades = s
by_suit s h d c Hearts = h
by_suit s h d c Diamonds = d
by_suit s h d c Clubs = c

-- ---- one suit
-- what is left below a power of two: a number and it, halved alike, add up to the power halved alike, or one less
halves : (x r : ℕ) → r ≤ 15 → x < 32768 → (x / 2 ^ r + (32768 - x) / 2 ^ r ≤ 2 ^ (15 - r)) × (2 ^ (15 - r) ≤ x / 2 ^ r + (32768 - x) / 2 ^ r + 1)
halves x r low small =
    let p = 2 ^ r in
    let u = x / p in
    let v = (32768 - x) / p in
    let whole : 2 ^ (15 - r) * p ≡ 32768 = sym (pow-add 2 (15 - r) r) ∙ ap (λ k. 2 ^ k) (let e : 15 - r + r ≡ 15 = omega (arith, low) in e) in
    let quotient : 32768 / p ≡ 2 ^ (15 - r) = ap (λ n. n / p) (sym whole ∙ (let z : 2 ^ (15 - r) * p ≡ 2 ^ (15 - r) * p + 0 = omega arith in z)) ∙ shr_high (2 ^ (15 - r)) r 0 (pow_pos r) in
    let a : u * p + x % p ≡ x = shr_split x r in
    let b : v * p + (32768 - x) % p ≡ 32768 - x = shr_split (32768 - x) r in
    let c : x % p < p = mod_below x p (pow_pos r) in
    let d : (32768 - x) % p < p = mod_below (32768 - x) p (pow_pos r) in
    let sum : (u + v) * p ≡ u * p + v * p = spread u v p in
    let more : (u + v + 2) * p ≡ (u + v) * p + 2 * p = spread (u + v) 2 p in
    let over : 32768 / p < u + v + 2 = (div-lt_iff_lt-mul (pow_pos r)).1 (omega (arith, a, b, c, d, sum, more, small)) in
    (not-less (u + v) (cases_lt (32768 / p) (u + v)) quotient (λ less. let h : 32768 < (u + v) * p = (div-lt_iff_lt-mul (pow_pos r)).0 less in omega (arith, h, a, b, sum, small)), omega (arith, over, quotient))
  where
    spread : (u v p : ℕ) → (u + v) * p ≡ u * p + v * p
    spread u v p = grind (arith)

    not-less : (s : ℕ) → (32768 / 2 ^ r < s) ⊎ (s ≤ 32768 / 2 ^ r) → 32768 / 2 ^ r ≡ 2 ^ (15 - r) → (32768 / 2 ^ r < s → ⊥) → s ≤ 2 ^ (15 - r)
    not-less s (inl less) e never = absurd (never less)
    not-less s (inr most) e never = omega (arith, most, e)

-- a bit of either, and so the next one
next-up : (x r : ℕ) → r ≤ 13 → x < 32768 → 1 ≤ bit_at x r + bit_at (32768 - x) r → 1 ≤ bit_at x (r + 1) + bit_at (32768 - x) (r + 1)
next-up x r low small some =
    let u = x / 2 ^ r in
    let v = (32768 - x) / 2 ^ r in
    let h = halves x r (omega (arith, low)) small in
    let most : u + v ≤ 2 ^ (15 - r) = h.0 in
    let least : 2 ^ (15 - r) ≤ u + v + 1 = h.1 in
    let four : 2 ^ (15 - r) ≡ 2 ^ (13 - r) * 4 = ap (λ k. 2 ^ k) (let e : 15 - r ≡ 13 - r + 2 = omega (arith, low) in e) ∙ pow-add 2 (13 - r) 2 in
    let here : 1 ≤ u % 2 + v % 2 = some in
    let a : bit_at x (r + 1) ≡ u / 2 % 2 = ap (λ k. k % 2) (sym (shr-shr x r 1)) in
    let b : bit_at (32768 - x) (r + 1) ≡ v / 2 % 2 = ap (λ k. k % 2) (sym (shr-shr (32768 - x) r 1)) in
    omega (arith, quarter u v (2 ^ (13 - r)) here (omega (arith, most, four)) (omega (arith, least, four)), a, b)
  where
    quarter : (u v w : ℕ) → 1 ≤ u % 2 + v % 2 → u + v ≤ w * 4 → w * 4 ≤ u + v + 1 → 1 ≤ u / 2 % 2 + v / 2 % 2
    quarter u v w some most least = omega (arith, some, most, least)

-- .. and each one above
all-up : (x r n : ℕ) → r + n ≤ 14 → x < 32768 → 1 ≤ bit_at x r + bit_at (32768 - x) r → 1 ≤ bit_at x (r + n) + bit_at (32768 - x) (r + n)
all-up x r zero most small some = subst (λ k. 1 ≤ bit_at x k + bit_at (32768 - x) k) (let e : r ≡ r + 0 = omega arith in e) some
all-up x r (suc n) most small some =
    subst (λ k. 1 ≤ bit_at x k + bit_at (32768 - x) k) (let e : r + n + 1 ≡ r + suc n = omega arith in e)
    (next-up x (r + n) (omega (arith, most)) small (all-up x r n (omega (arith, most)) small some))

-- ---- all suits
-- a bit of a lane is that of the number
lane-bit : (m : ℕ) (u : Suit) (r : ℕ) → r < 16 → bit_at m (suit_shift u + r) ≡ bit_at (lane m u) r
lane-bit m u r low =
    let n = m / 2 ^ suit_shift u in
    ap (λ k. k % 2) (sym (shr-shr m (suit_shift u) r)) ∙ ap (λ k. bit_at k r) (sym (shr_split n 16)) ∙ bit_at_cat_low (n / 2 ^ 16) 16 (n % 2 ^ 16) r low

-- a hand's lane has no bit above the ace's
lane-small : (m : ℕ) (u : Suit) → IsHandMask m → lane m u < 32768
lane-small m u valid = elim (eqb_tells (bit_at m (suit_shift u + 15)) 1) [
  | inl same ↦ absurd (let v = (valid (suit_shift u + 15) same.1).2 in let k = suit_code-lt u in omega (arith, v, k))
  | inr other ↦ (
      let l = bit_at-lt m (suit_shift u + 15) in
      let o = other.1 in
      let e : bit_at m (suit_shift u + 15) ≡ bit_at (lane m u) 15 = lane-bit m u 15 (omega arith) in
      let s : lane m u < 65536 = mod_below (m / 2 ^ suit_shift u) (2 ^ 16) (pow_pos 16) in
      top-clear (lane m u) s (omega (arith, l, o, e)))
]
  where
    top-clear : (x : ℕ) → x < 65536 → x / 32768 % 2 ≡ 0 → x < 32768
    top-clear x small clear = omega (arith, small, clear)

-- the hand by its lanes
by-lanes : (m : ℕ) → m < 2 ^ 64 → m ≡ lane m Spades * 281474976710656 + lane m Hearts * 4294967296 + lane m Diamonds * 65536 + lane m Clubs
by-lanes m fits = omega (arith, fits)

pub guard-over : (m : ℕ) → IsHandMask m → m < 2 ^ 64 → m ≤ guard_bits
guard-over m valid fits =
    let e = by-lanes m fits in
    let s = lane-small m Spades valid in let h = lane-small m Hearts valid in let d = lane-small m Diamonds valid in let c = lane-small m Clubs valid in
    omega (arith, e, s, h, d, c)

-- each lane is taken from its own bit
guard-lane : (m : ℕ) (u : Suit) → IsHandMask m → m < 2 ^ 64 → lane (guard_bits - m) u ≡ 32768 - lane m u
guard-lane m u valid fits =
    let e = by-lanes m fits in
    let s = lane-small m Spades valid in let h = lane-small m Hearts valid in let d = lane-small m Diamonds valid in let c = lane-small m Clubs valid in
    let all : guard_bits - m ≡ (32768 - lane m Spades) * 281474976710656 + (32768 - lane m Hearts) * 4294967296 + (32768 - lane m Diamonds) * 65536 + (32768 - lane m Clubs) = omega (arith, e, s, h, d, c) in
    ap (λ n. lane n u) all ∙ go u (lane m Spades) (lane m Hearts) (lane m Diamonds) (lane m Clubs) s h d c ∙ ap (λ x. 32768 - x) (own u)
  where
    own : (u : Suit) → by_suit (lane m Spades) (lane m Hearts) (lane m Diamonds) (lane m Clubs) u ≡ lane m u
    own Spades = refl
    own Hearts = refl
    own Diamonds = refl
    own Clubs = refl

    go : (u : Suit) (s h d c : ℕ) → s < 32768 → h < 32768 → d < 32768 → c < 32768
        → lane ((32768 - s) * 281474976710656 + (32768 - h) * 4294967296 + (32768 - d) * 65536 + (32768 - c)) u ≡ 32768 - by_suit s h d c u
    go Spades s h d c ls lh ld lc = omega (arith, ls, lh, ld, lc)
    go Hearts s h d c ls lh ld lc = omega (arith, ls, lh, ld, lc)
    go Diamonds s h d c ls lh ld lc = omega (arith, ls, lh, ld, lc)
    go Clubs s h d c ls lh ld lc = omega (arith, ls, lh, ld, lc)

-- ---- a hand
-- the bits of its cards and of those above them
abbrev pub upward : ℕ → ℕ
upward m = bit_and (bit_or m (guard_bits - m)) pack_bits

pub upward-mask : (m : ℕ) → IsHandMask (upward m)
upward-mask m i set =
    let a : bit_at (upward m) i ≡ min (bit_at (bit_or m (guard_bits - m)) i) (bit_at pack_bits i) = bit_at_and (bit_or m (guard_bits - m)) pack_bits i in
    let l = bit_at-lt pack_bits i in
    pack-mask i (omega (arith, a, l, set))

-- a card is there where the bit of its rank is set in its suit's lane, or in what is left of that
upward-bit : (m : ℕ) (d : PlayingCard) → IsHandMask m → m < 2 ^ 64 → IsRank d.rank
    → bit_at (upward m) (place_of d) ≡ max (bit_at (lane m d.suit) d.rank) (bit_at (32768 - lane m d.suit) d.rank)
upward-bit m d valid fits real =
    let low : d.rank < 16 = (let b = real.1 in omega (arith, b)) in
    let a : bit_at (upward m) (place_of d) ≡ min (bit_at (bit_or m (guard_bits - m)) (place_of d)) (bit_at pack_bits (place_of d)) = bit_at_and (bit_or m (guard_bits - m)) pack_bits (place_of d) in
    let one : bit_at pack_bits (place_of d) ≡ 1 = pack-bit d real in
    let l = bit_at-lt (bit_or m (guard_bits - m)) (place_of d) in
    let same : bit_at (upward m) (place_of d) ≡ bit_at (bit_or m (guard_bits - m)) (place_of d) = omega (arith, a, one, l) in
    same ∙ bit_at_or m (guard_bits - m) (place_of d)
    ∙ ap₂ max (lane-bit m d.suit d.rank low) (lane-bit (guard_bits - m) d.suit d.rank low ∙ ap (λ x. bit_at x d.rank) (guard-lane m d.suit valid fits))

-- of two bits one is set
some-bit : (m : ℕ) (d : PlayingCard) → IsHandMask m → m < 2 ^ 64 → IsRank d.rank → has_card (cards_of (upward m)) d ≡ true → 1 ≤ bit_at (lane m d.suit) d.rank + bit_at (32768 - lane m d.suit) d.rank
some-bit m d valid fits real has =
    let e = eqb-true (bit_at (upward m) (place_of d)) 1 (sym (has_card-cards_of (upward m) d real) ∙ has) in
    let b = upward-bit m d valid fits real in
    omega (arith, e, b)

bit-has : (m : ℕ) (d : PlayingCard) → IsHandMask m → m < 2 ^ 64 → IsRank d.rank → 1 ≤ bit_at (lane m d.suit) d.rank + bit_at (32768 - lane m d.suit) d.rank → has_card (cards_of (upward m)) d ≡ true
bit-has m d valid fits real some =
    let b = upward-bit m d valid fits real in
    let x = bit_at-lt (lane m d.suit) d.rank in
    let y = bit_at-lt (32768 - lane m d.suit) d.rank in
    has_card-cards_of (upward m) d real ∙ eq-eqb (bit_at (upward m) (place_of d)) 1 (omega (arith, b, x, y, some))

pub upward-top : (m : ℕ) → IsHandMask m → m < 2 ^ 64 → AreTop (cards_of (upward m))
upward-top m valid fits c d has suit low high =
    let real_c = real-set (cards_of (upward m)) c (cards-set (upward m)) has in
    let two = real_c.0 in
    let some = some-bit m c valid fits real_c has in
    bit-has m d valid fits (omega (arith, two, low), high)
    (subst (λ (u : Suit). 1 ≤ bit_at (lane m u) d.rank + bit_at (32768 - lane m u) d.rank) (sym suit)
    (subst (λ k. 1 ≤ bit_at (lane m c.suit) k + bit_at (32768 - lane m c.suit) k) (let e : c.rank + (d.rank - c.rank) ≡ d.rank = omega (arith, low) in e)
    (all-up (lane m c.suit) c.rank (d.rank - c.rank) (omega (arith, low, high)) (lane-small m c.suit valid) some)))

-- the cards themselves are there
pub upward-has : (m : ℕ) (d : PlayingCard) → IsHandMask m → m < 2 ^ 64 → has_card (cards_of m) d ≡ true → has_card (cards_of (upward m)) d ≡ true
upward-has m d valid fits has =
    let real = real-set (cards_of m) d (cards-set m) has in
    let low : d.rank < 16 = (let b = real.1 in omega (arith, b)) in
    let e = eqb-true (bit_at m (place_of d)) 1 (sym (has_card-cards_of m d real) ∙ has) in
    let l : bit_at m (place_of d) ≡ bit_at (lane m d.suit) d.rank = lane-bit m d.suit d.rank low in
    bit-has m d valid fits real (omega (arith, e, l))
