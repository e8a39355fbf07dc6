-- the bits of a hand when those below a gap move up
use Rattle.std.proofs.Common.{◌≡◌, ◌≢◌, ℕ, zero, suc, ◌+◌, ◌-◌, ◌*◌, ◌/◌, ◌%◌, ◌^◌, ◌<◌, ◌≤◌, ◌⊎◌, true, false, sym, ap, ◌∙◌, arith, inl, inr, bit_and}
use Rattle.std.specs.Prelude.{◌==◌}
use Rattle.std.specs.Int.{bit_at}
use Rattle.std.proofs.lemmas.Bool.{cases_lt, false_from_ne_true}
use Rattle.std.proofs.lemmas.Bool.Decides.{eqb_tells}
use Rattle.std.proofs.lemmas.Nat.{and_le_l, mod-pow-add, mod_below, mul-add-lt, pow-add, pow_pos, pow_below, shr_split}
use Rattle.std.proofs.lemmas.Nat.Bits.{and_high, bit_at-lt, bit_at-suc, bit_at_cat_low, bit_at_cat_high}
use Rattle.dd_cards.specs.Suits.{suit_code, suit_shift}
use Rattle.dd_cards.specs.PlayingCard.{PlayingCard}
use Rattle.dd_cards.specs.Ranks.{IsRank}
use Rattle.dd_cards.specs.Cards.{card_of, deck, has_card, place_of}
use Rattle.dd_cards.specs.Hands.{IsSet}
use Rattle.dd_cards.specs.HandMasks.{IsHandMask, in_hand, cards_of}
use Rattle.dd_cards.proofs.CallerLemmas.{IsSet-deck, IsSet-filter, real-set, same-members, suit_code-injective, suit_code-lt, has_card-cards_of}
use Rattle.dd_relative.specs.Gaps.{lowered, moved_up}
use Rattle.dd_relative.proofs.Cards.{high-or, lowered-below, lowered-else, moved-has, moved-set}

-- the bits from s up to s + r
abbrev part : ℕ → ℕ → ℕ → ℕ
part m s r = m / 2 ^ s % 2 ^ r

-- .. moved up by one place
abbrev pub up : ℕ → ℕ → ℕ → ℕ
up m s r = m + bit_and m (2 ^ (s + r) - 2 ^ s)

-- three parts: from s + r + 1 on, from s to s + r and below s, where bit s + r is clear
split : (m s r : ℕ) → bit_at m (s + r) ≡ 0 → m ≡ m / 2 ^ (s + r + 1) * 2 ^ (s + r + 1) + (part m s r * 2 ^ s + m % 2 ^ s)
split m s r clear =
    let top : m / 2 ^ (s + r + 1) * 2 ^ (s + r + 1) + m % 2 ^ (s + r + 1) ≡ m = shr_split m (s + r + 1) in
    let order : s + r + 1 ≡ 1 + (s + r) = omega arith in
    let one : m % 2 ^ (s + r + 1) ≡ (m / 2 ^ (s + r) % 2 ^ 1) * 2 ^ (s + r) + m % 2 ^ (s + r) = ap (λ k. m % 2 ^ k) order ∙ mod-pow-add m 1 (s + r) in
    let none : (m / 2 ^ (s + r) % 2 ^ 1) * 2 ^ (s + r) ≡ 0 = ap (λ b. b * 2 ^ (s + r)) clear ∙ (let z : 0 * 2 ^ (s + r) ≡ 0 = omega arith in z) in
    let turned : s + r ≡ r + s = omega arith in
    let two : m % 2 ^ (s + r) ≡ part m s r * 2 ^ s + m % 2 ^ s = ap (λ k. m % 2 ^ k) turned ∙ mod-pow-add m r s in
    omega (arith, top, one, none, two)

-- .. and the same moved
split-up : (m s r : ℕ) → bit_at m (s + r) ≡ 0 → up m s r ≡ m / 2 ^ (s + r + 1) * 2 ^ (s + r + 1) + (2 * part m s r * 2 ^ s + m % 2 ^ s)
split-up m s r clear =
    let a = split m s r clear in
    let turned : s + r ≡ r + s = omega arith in
    let b : bit_and m (2 ^ (s + r) - 2 ^ s) ≡ part m s r * 2 ^ s = ap (λ k. bit_and m (2 ^ k - 2 ^ s)) turned ∙ and_high m r s in
    let c : 2 * part m s r * 2 ^ s ≡ part m s r * 2 ^ s + part m s r * 2 ^ s = doubled (part m s r) (2 ^ s) in
    omega (arith, a, b, c)
  where
    doubled : (x p : ℕ) → 2 * x * p ≡ x * p + x * p
    doubled x p = grind (arith)

-- both have so many bits below the first part
low-small : (m s r : ℕ) → part m s r * 2 ^ s + m % 2 ^ s < 2 ^ (s + r + 1)
low-small m s r =
    let y : part m s r < 2 ^ r = mod_below (m / 2 ^ s) (2 ^ r) (pow_pos r) in
    let l : m % 2 ^ s < 2 ^ s = mod_below m (2 ^ s) (pow_pos s) in
    let a : part m s r * 2 ^ s + m % 2 ^ s < 2 ^ s * 2 ^ r = mul-add-lt (part m s r) (2 ^ s) (m % 2 ^ s) (2 ^ r) y l in
    let b : 2 ^ (s + r) ≡ 2 ^ s * 2 ^ r = pow-add 2 s r in
    let c : 2 ^ (s + r) < 2 ^ (s + r + 1) = pow_below (s + r) (s + r + 1) (omega arith) in
    omega (arith, a, b, c)

up-small : (m s r : ℕ) → 2 * part m s r * 2 ^ s + m % 2 ^ s < 2 ^ (s + r + 1)
up-small m s r =
    let y : part m s r < 2 ^ r = mod_below (m / 2 ^ s) (2 ^ r) (pow_pos r) in
    let l : m % 2 ^ s < 2 ^ s = mod_below m (2 ^ s) (pow_pos s) in
    let twice : 2 ^ (r + 1) ≡ 2 ^ r * 2 = pow-add 2 r 1 in
    let a : 2 * part m s r * 2 ^ s + m % 2 ^ s < 2 ^ s * 2 ^ (r + 1) = mul-add-lt (2 * part m s r) (2 ^ s) (m % 2 ^ s) (2 ^ (r + 1)) (omega (arith, y, twice)) l in
    let b : 2 ^ (s + (r + 1)) ≡ 2 ^ s * 2 ^ (r + 1) = pow-add 2 s (r + 1) in
    let c : 2 ^ (s + r + 1) ≡ 2 ^ (s + (r + 1)) = ap (λ k. 2 ^ k) (let e : s + r + 1 ≡ s + (r + 1) = omega arith in e) in
    omega (arith, a, b, c)

-- ---- the bits one by one
-- outside they stay
up-other : (m s r i : ℕ) → bit_at m (s + r) ≡ 0 → (i < s) ⊎ (s + r < i) → bit_at (up m s r) i ≡ bit_at m i
up-other m s r i clear (inl low) =
    let h = m / 2 ^ (s + r + 1) in
    ap (λ n. bit_at n i) (split-up m s r clear) ∙ bit_at_cat_low h (s + r + 1) (2 * part m s r * 2 ^ s + m % 2 ^ s) i (omega (arith, low)) ∙ bit_at_cat_low (2 * part m s r) s (m % 2 ^ s) i low
    ∙ sym (ap (λ n. bit_at n i) (split m s r clear) ∙ bit_at_cat_low h (s + r + 1) (part m s r * 2 ^ s + m % 2 ^ s) i (omega (arith, low)) ∙ bit_at_cat_low (part m s r) s (m % 2 ^ s) i low)
up-other m s r i clear (inr high) =
    let h = m / 2 ^ (s + r + 1) in
    ap (λ n. bit_at n i) (split-up m s r clear) ∙ bit_at_cat_high h (s + r + 1) (2 * part m s r * 2 ^ s + m % 2 ^ s) i (up-small m s r) (omega (arith, high))
    ∙ sym (ap (λ n. bit_at n i) (split m s r clear) ∙ bit_at_cat_high h (s + r + 1) (part m s r * 2 ^ s + m % 2 ^ s) i (low-small m s r) (omega (arith, high)))

-- the lowest is clear
up-lowest : (m s r : ℕ) → bit_at m (s + r) ≡ 0 → bit_at (up m s r) s ≡ 0
up-lowest m s r clear =
    ap (λ n. bit_at n s) (split-up m s r clear) ∙ bit_at_cat_low (m / 2 ^ (s + r + 1)) (s + r + 1) (2 * part m s r * 2 ^ s + m % 2 ^ s) s (omega arith)
    ∙ bit_at_cat_high (2 * part m s r) s (m % 2 ^ s) s (mod_below m (2 ^ s) (pow_pos s)) (omega arith)
    ∙ ap (bit_at (2 * part m s r)) (let e : s - s ≡ 0 = omega arith in e) ∙ even (part m s r)
  where
    even : (x : ℕ) → bit_at (2 * x) 0 ≡ 0
    even x = omega arith

-- each other one is what the bit below it was
up-next : (m s r i : ℕ) → bit_at m (s + r) ≡ 0 → s ≤ i → i < s + r → bit_at (up m s r) (suc i) ≡ bit_at m i
up-next m s r i clear low high =
    let h = m / 2 ^ (s + r + 1) in
    let l : m % 2 ^ s < 2 ^ s = mod_below m (2 ^ s) (pow_pos s) in
    ap (λ n. bit_at n (suc i)) (split-up m s r clear) ∙ bit_at_cat_low h (s + r + 1) (2 * part m s r * 2 ^ s + m % 2 ^ s) (suc i) (omega (arith, high))
    ∙ bit_at_cat_high (2 * part m s r) s (m % 2 ^ s) (suc i) l (omega (arith, low))
    ∙ ap (bit_at (2 * part m s r)) (let e : suc i - s ≡ suc (i - s) = omega (arith, low) in e)
    ∙ bit_at-suc (2 * part m s r) (i - s) ∙ ap (λ n. bit_at n (i - s)) (half (part m s r))
    ∙ sym (
    ap (λ n. bit_at n i) (split m s r clear) ∙ bit_at_cat_low h (s + r + 1) (part m s r * 2 ^ s + m % 2 ^ s) i (omega (arith, high)) ∙ bit_at_cat_high (part m s r) s (m % 2 ^ s) i l low)
  where
    half : (x : ℕ) → 2 * x / 2 ≡ x
    half x = omega arith

-- ---- a hand
-- a hand is a set
pub cards-set : (m : ℕ) → IsSet (cards_of m)
unfolding cards_of
cards-set m = IsSet-filter (in_hand m) deck IsSet-deck

-- a card that a hand has not has no bit
pub no-bit : (m : ℕ) (g : PlayingCard) → IsRank g.rank → has_card (cards_of m) g ≡ false → bit_at m (place_of g) ≡ 0
no-bit m g real none = elim (eqb_tells (bit_at m (place_of g)) 1) [
  | inl same ↦ absurd (let h : true ≡ false = sym same.0 ∙ sym (has_card-cards_of m g real) ∙ none in cc)
  | inr other ↦ (let l = bit_at-lt m (place_of g) in let d = other.1 in omega (arith, l, d))
]

-- the sum is a word
pub up-fits : (m x : ℕ) → IsHandMask m → m < 2 ^ 64 → m + bit_and m x < 2 ^ 64
up-fits m x valid fits =
    let a : bit_and m x ≤ m = and_le_l m x in
    let none : bit_at m 63 ≡ 0 = elim (eqb_tells (bit_at m 63) 1) [
      | inl same ↦ absurd (let v = (valid 63 same.1).2 in omega (arith, v))
      | inr other ↦ (let l = bit_at-lt m 63 in let d = other.1 in omega (arith, l, d))
    ] in
    half m none fits a
  where
    half : (m : ℕ) → bit_at m 63 ≡ 0 → m < 2 ^ 64 → bit_and m x ≤ m → m + bit_and m x < 2 ^ 64
    half m none fits a = omega (arith, none, fits, a)

-- only bits of cards are set
pub up-mask : (m : ℕ) (g : PlayingCard) → IsHandMask m → IsRank g.rank → bit_at m (place_of g) ≡ 0 → IsHandMask (up m (suit_shift g.suit) g.rank)
up-mask m g valid real clear i set = elim (cases_lt i s) [
  | inl low ↦ valid i (sym (up-other m s r i clear (inl low)) ∙ set)
  | inr at_least ↦ elim (cases_lt (s + r) i) [
    | inl high ↦ valid i (sym (up-other m s r i clear (inr high)) ∙ set)
    | inr at_most ↦ elim (eqb_tells i s) [
      | inl same ↦ absurd (let z : 1 ≡ 0 = sym set ∙ ap (bit_at (up m s r)) same.1 ∙ up-lowest m s r clear in omega (arith, z))
      | inr other ↦ between i at_least at_most other.1 set
    ]
  ]
]
  where
    s : ℕ
    s = suit_shift g.suit

    r : ℕ
    r = g.rank

    between : (i : ℕ) → s ≤ i → i ≤ s + r → i ≢ s → bit_at (up m s r) i ≡ 1 → (i < 64) × (2 ≤ i % 16) × (i % 16 ≤ 14)
    between zero low high other set = absurd (other (omega (arith, low)))
    between (suc i) low high other set =
        let from : s ≤ i = omega (arith, low, other) in
        let v = valid i (sym (up-next m s r i clear from (omega (arith, high))) ∙ set) in
        let k = suit_code-lt g.suit in
        let top = real.1 in
        let a = v.0 in
        let b = v.1 in
        (omega (arith, from, high, k, top), omega (arith, from, high, k, top, b), omega (arith, from, high, k, top))

-- .. and they are the cards moved up
pub moved-cards : (m : ℕ) (g : PlayingCard) → IsHandMask m → IsRank g.rank → bit_at m (place_of g) ≡ 0 → cards_of (up m (suit_shift g.suit) g.rank) ≡ moved_up g (cards_of m)
moved-cards m g valid real clear =
    same-members (cards_of (up m s r)) (moved_up g (cards_of m)) (cards-set (up m s r)) (moved-set g (cards_of m))
    (λ d there. has_card-cards_of (up m s r) d there ∙ each d there (high-or g d) ∙ sym (moved-has g (cards_of m) d there))
  where
    s : ℕ
    s = suit_shift g.suit

    r : ℕ
    r = g.rank

    outside : (d : PlayingCard) → IsRank d.rank → (d.suit ≡ g.suit → g.rank < d.rank) → (place_of d < s) ⊎ (s + r < place_of d)
    outside d there above = elim (eqb_tells (suit_code d.suit) (suit_code g.suit)) [
      | inl same ↦ inr (let e = same.1 in let h = above (suit_code-injective d.suit g.suit same.1) in let k = suit_code-lt g.suit in omega (arith, e, h, k))
      | inr other ↦ elim (cases_lt (suit_code g.suit) (suit_code d.suit)) [
        | inl more ↦ inl (let k = suit_code-lt d.suit in let t = there.1 in omega (arith, more, k, t))
        | inr less ↦ inr (let o = other.1 in let k = suit_code-lt g.suit in let t = real.1 in let b = there.0 in omega (arith, less, o, k, t, b))
      ]
    ]

    lowest : (u : PlayingCard) → u.rank ≡ 1 → has_card (cards_of m) u ≡ false
    lowest u one = false_from_ne_true _ (λ h. let v = (real-set (cards_of m) u (cards-set m) h).0 in omega (arith, v, one))

    unset : (j : ℕ) → j ≡ 1 → (bit_at m (s + j) == 1) ≡ false
    unset j one = elim (eqb_tells (bit_at m (s + j)) 1) [
      | inl same ↦ absurd (let v = (valid (s + j) same.1).1 in let k = suit_code-lt g.suit in omega (arith, v, one, k))
      | inr other ↦ other.0
    ]

    known : (d : PlayingCard) (j : ℕ) → d.suit ≡ g.suit → 1 ≤ j → j ≤ 14 → (bit_at m (s + j) == 1) ≡ has_card (cards_of m) (card_of d.suit j)
    known d j same low high = elim (cases_lt 1 j) [
      | inl two ↦ ap (λ u. bit_at m (suit_shift u + j) == 1) (sym same) ∙ sym (has_card-cards_of m (card_of d.suit j) (two, high))
      | inr one ↦ unset j (omega (arith, low, one)) ∙ sym (lowest (card_of d.suit j) (omega (arith, low, one)))
    ]

    each : (d : PlayingCard) → IsRank d.rank → ((d.suit ≡ g.suit) × (d.rank ≤ g.rank)) ⊎ (d.suit ≡ g.suit → g.rank < d.rank) → in_hand (up m s r) d ≡ has_card (cards_of m) (lowered g d)
    each d there (inr above) =
        ap (λ b. b == 1) (up-other m s r (place_of d) clear (outside d there above)) ∙ sym (has_card-cards_of m d there) ∙ ap (has_card (cards_of m)) (sym (lowered-else g d above))
    each d there (inl below) =
        let e : suit_shift d.suit ≡ s = ap suit_shift below.0 in
        let b = there.0 in
        let t = there.1 in
        let h = below.1 in
        let at : place_of d ≡ suc (s + (d.rank - 1)) = omega (arith, e, b) in
        ap (λ n. n == 1) (ap (bit_at (up m s r)) at ∙ up-next m s r (s + (d.rank - 1)) clear (omega arith) (omega (arith, b, h)))
        ∙ known d (d.rank - 1) below.0 (omega (arith, b)) (omega (arith, t)) ∙ ap (has_card (cards_of m)) (sym (lowered-below g d below.0 below.1))
