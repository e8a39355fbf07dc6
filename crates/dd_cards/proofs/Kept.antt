-- cards of a suit taken out of a hand
use Rattle.std.proofs.Common.{◌≡◌, ◌≢◌, ℕ, ◌+◌, ◌-◌, ◌*◌, ◌%◌, ◌^◌, ◌<◌, ◌≤◌, Bool, true, false, refl, sym, ap, ◌∙◌, arith, inl, inr, bit_and, w64, lit<, nat_eq, eq-eqb}
use Rattle.std.specs.Prelude.{filter, ◌==◌, ◌&&◌, nat_lt}
use Rattle.std.specs.Int.{bit_at, bit_not}
use mathlib.Core.Bool.{not}
use Rattle.std.proofs.lemmas.Bool.{cases_lt}
use Rattle.std.proofs.lemmas.Bool.Decides.{eqb_tells, nat_tests}
use Rattle.std.proofs.lemmas.Nat.{one_shl, pow_pos}
use Rattle.std.proofs.Math.Nat.{pow-le-pow_right}
use Rattle.std.proofs.lemmas.Nat.Bits.{bit_at_mask_inside, bit_at_mask_below, bit_at_mask_above}
use Rattle.dd_cards.specs.declared.suit.Suit.{Suit}
use Rattle.dd_cards.specs.Suits.{suit_code, suit_shift}
use Rattle.dd_cards.specs.PlayingCard.{PlayingCard}
use Rattle.dd_cards.specs.Ranks.{IsRank}
use Rattle.dd_cards.specs.Cards.{is_of, deck, place_of}
use Rattle.dd_cards.specs.HandMasks.{in_hand, cards_of}
use Rattle.dd_cards.proofs.CardLists.{suit_code-lt}
use Rattle.dd_cards.proofs.HandLists.{filter-deck, place_of-lt}
use Rattle.dd_cards.proofs.Firsts.{lane_mask}
use Rattle.dd_cards.proofs.General.{filter-filter}
use Rattle.dd_cards.proofs.Sequences.{is_set, set-and, set-not}

-- the bits of a suit's ranks below w
abbrev span : Suit → ℕ → ℕ
span s w = 2 ^ (suit_shift s + w) - 2 ^ suit_shift s

lt-true : (a b : ℕ) → a < b → nat_lt a b ≡ true
lt-true a b h = grind (arith, nat_tests)

lt-false : (a b : ℕ) → b ≤ a → nat_lt a b ≡ false
lt-false a b h = grind (arith, nat_tests)

-- they are those of the suit's cards below w
span-set : (s : Suit) (w : ℕ) (d : PlayingCard) → w ≤ 16 → IsRank d.rank → is_set (span s w) (place_of d) ≡ (is_of s d && nat_lt d.rank w)
span-set s w d small real =
    let k = suit_code-lt s in
    let j = suit_code-lt d.suit in
    let high = real.1 in
    elim (eqb_tells (suit_code d.suit) (suit_code s)) [
      | inl same ↦ rw same.0 (
          let e = same.1 in
          elim (cases_lt d.rank w) [
            | inl l ↦ ap (λ x. x == 1) (bit_at_mask_inside (suit_shift s) (suit_shift s + w) (place_of d) (omega (arith, e, k, j)) (omega (arith, e, l, k, j))) ∙ sym (lt-true d.rank w l)
            | inr l ↦ ap (λ x. x == 1) (bit_at_mask_above (suit_shift s) (suit_shift s + w) (place_of d) (omega (arith, e, l, k, j))) ∙ sym (lt-false d.rank w l)
          ])
      | inr other ↦ rw other.0 (
          let o = other.1 in
          elim (cases_lt (place_of d) (suit_shift s)) [
            | inl l ↦ ap (λ x. x == 1) (bit_at_mask_below (suit_shift s) (suit_shift s + w) (place_of d) l)
            | inr l ↦ ap (λ x. x == 1) (bit_at_mask_above (suit_shift s) (suit_shift s + w) (place_of d) (omega (arith, o, l, small, high, k, j)))
          ])
    ]

-- the span is a word
span-small : (s : Suit) (w : ℕ) → w ≤ 16 → span s w < 2 ^ 64
span-small s w small =
    let k = suit_code-lt s in
    let le : 2 ^ (suit_shift s + w) ≤ 2 ^ 64 = pow-le-pow_right (lit< tt) {i = suit_shift s + w} {j = 64} (omega (arith, k, small)) in
    let pos : 0 < 2 ^ suit_shift s = pow_pos (suit_shift s) in
    omega (arith, le, pos)

cards_of-outside : (m : ℕ) (s : Suit) (w : ℕ) → w ≤ 16 → cards_of (bit_and m (bit_not w64 (span s w))) ≡ filter (λ c. not (is_of s c && nat_lt c.rank w)) (cards_of m)
unfolding cards_of
cards_of-outside m s w small =
    filter-deck (in_hand (bit_and m (bit_not w64 (span s w)))) (λ d. in_hand m d && not (is_of s d && nat_lt d.rank w)) (λ d real.
    set-and m (bit_not w64 (span s w)) (place_of d)
    ∙ ap (λ b. in_hand m d && b) (set-not (span s w) (place_of d) (span-small s w small) (place_of-lt d real) ∙ ap not (span-set s w d small real)))
    ∙ sym (filter-filter (λ c. not (is_of s c && nat_lt c.rank w)) (in_hand m) deck)

-- the bit of a rank of the suit, as it is written
rank_bit : (s : Suit) (r : ℕ) → r ≤ 14 → 1 * 2 ^ (suit_shift s + r) % 2 ^ 64 ≡ 2 ^ (suit_shift s + r)
rank_bit s r h = let k = suit_code-lt s in one_shl (suit_shift s + r) 64 (omega (arith, h, k))

shift_bit : (s : Suit) → 1 * 2 ^ suit_shift s % 2 ^ 64 ≡ 2 ^ suit_shift s
shift_bit s = let k = suit_code-lt s in one_shl (suit_shift s) 64 (omega (arith, k))

-- without the cards of a suit below a rank
pub cards_of-from : (m : ℕ) (s : Suit) (r : ℕ) → IsRank r → cards_of (bit_and m (bit_not w64 (1 * 2 ^ (suit_shift s + r) % 2 ^ 64 - 1 * 2 ^ suit_shift s % 2 ^ 64))) ≡ filter (λ c. not (is_of s c && nat_lt c.rank r)) (cards_of m)
cards_of-from m s r real =
    let h = real.1 in
    ap (λ x. cards_of (bit_and m (bit_not w64 (x - 1 * 2 ^ suit_shift s % 2 ^ 64)))) (rank_bit s r h)
    ∙ ap (λ x. cards_of (bit_and m (bit_not w64 (2 ^ (suit_shift s + r) - x)))) (shift_bit s)
    ∙ cards_of-outside m s r (omega (arith, h))

pub bits-fall : (s : Suit) (r : ℕ) → IsRank r → 1 * 2 ^ suit_shift s % 2 ^ 64 ≤ 1 * 2 ^ (suit_shift s + r) % 2 ^ 64
bits-fall s r real =
    let le : 2 ^ suit_shift s ≤ 2 ^ (suit_shift s + r) = pow-le-pow_right (lit< tt) {i = suit_shift s} {j = suit_shift s + r} (omega arith) in
    rw (rank_bit s r real.1, shift_bit s) le

-- without the cards of a suit
pub cards_of-other : (m : ℕ) (s : Suit) → cards_of (bit_and m (bit_not w64 (65535 * 2 ^ suit_shift s % 2 ^ 64))) ≡ filter (λ c. not (is_of s c)) (cards_of m)
unfolding cards_of
cards_of-other m s =
    let k = suit_code-lt s in
    ap (λ x. filter (in_hand (bit_and m (bit_not w64 x))) deck) (lane_mask (suit_shift s) (omega (arith, k)))
    ∙ filter-deck (in_hand (bit_and m (bit_not w64 (span s 16)))) (λ d. in_hand m d && not (is_of s d)) (λ d real.
    set-and m (bit_not w64 (span s 16)) (place_of d)
    ∙ ap (λ b. in_hand m d && b) (set-not (span s 16) (place_of d) (span-small s 16 (omega arith)) (place_of-lt d real) ∙ ap not (span-set s 16 d (omega arith) real ∙ whole d real)))
    ∙ sym (filter-filter (λ c. not (is_of s c)) (in_hand m) deck)
  where
    and-true : (a b : Bool) → b ≡ true → (a && b) ≡ a
    and-true true b h = h
    and-true false b h = refl

    whole : (d : PlayingCard) → IsRank d.rank → (is_of s d && nat_lt d.rank 16) ≡ is_of s d
    whole d real = let h = real.1 in and-true (is_of s d) (nat_lt d.rank 16) (lt-true d.rank 16 (omega (arith, h)))
