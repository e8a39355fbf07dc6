-- the card of a suit that has so many from it on up
use Rattle.std.proofs.Common.{◌≡◌, ℕ, zero, suc, ◌+◌, ◌-◌, ◌*◌, ◌/◌, ◌%◌, ◌^◌, ◌<◌, ◌≤◌, true, refl, sym, ap, ◌∙◌, arith, length, inl, inr, ◌⊎◌, eq-eqb, bit_and}
use Rattle.std.specs.Prelude.{filter, count_ones, nat_lt}
use Rattle.std.specs.Int.{bit_at}
use Rattle.std.proofs.lemmas.Bool.{eqb-true, cases_lt}
use Rattle.std.proofs.lemmas.Bool.Decides.{eqb_tells}
use Rattle.std.proofs.Math.Pow.{mod-mod-pow, split}
use Rattle.std.proofs.Math.Nat.{mul-mod_left}
use Rattle.std.specs.Int.Bits.{and_zero_r}
use Rattle.std.proofs.lemmas.List.{length-map}
use Rattle.std.proofs.lemmas.Nat.{and_mod, ones_cat, shr-shr, pow_pos, one_shl}
use Rattle.std.proofs.lemmas.Nat.Bits.{bit_at-lt, bit_at_and, bit_at-pow_same, bit_at-pow_other, same_from_bits}
use Rattle.dd_cards.specs.declared.suit.Suit.{Suit}
use Rattle.dd_cards.specs.Suits.{suit_code, suit_shift}
use Rattle.dd_cards.specs.PlayingCard.{PlayingCard}
use Rattle.dd_cards.specs.Ranks.{IsRank}
use Rattle.dd_cards.specs.Masks.{IsMask, ranks_of}
use Rattle.dd_cards.specs.Cards.{is_of, card_of, has_card, place_of}
use Rattle.dd_cards.specs.HandMasks.{cards_of}
use Rattle.dd_cards.specs.Sequences.{is_above}
use Rattle.dd_cards.proofs.CardLists.{suit_code-injective, suit_code-lt}
use Rattle.dd_cards.proofs.HandLists.{has_card-cards_of}
use Rattle.dd_cards.proofs.Unions.{cards-real}
use Rattle.dd_cards.proofs.Masks.{IsMask-and, le_14, part_bit, two_le}
use Rattle.dd_cards.proofs.RankLists.{length-ranks_of, ranks_of-above}
use Rattle.dd_cards.proofs.Lanes.{lane-bit, lane-cards, lane-mask}
use Rattle.dd_cards.proofs.General.{filter-filter, filter-map}

-- a suit's lane without its unused bits
abbrev pub lane_of : ℕ → Suit → ℕ
lane_of m s = bit_and (m / 2 ^ suit_shift s) 32764

-- the ones from a bit on are that bit and those from the next one on
ones-from : (n k : ℕ) → count_ones (n / 2 ^ k) ≡ bit_at n k + count_ones (n / 2 ^ (k + 1))
unfolding lib.Count.ones
ones-from n k =
    let half : n / 2 ^ k / 2 ^ 1 ≡ n / 2 ^ (k + 1) = shr-shr n k 1 in
    let parts : n / 2 ^ k ≡ n / 2 ^ k / 2 ^ 1 * 2 ^ 1 + bit_at n k = omega arith in
    ap count_ones parts ∙ ones_cat 1 (n / 2 ^ k / 2 ^ 1) (bit_at n k) (bit_at-lt n k)
    ∙ ap (λ x. count_ones x + count_ones (bit_at n k)) half ∙ ap (λ x. count_ones (n / 2 ^ (k + 1)) + x) (one (bit_at n k) (bit_at-lt n k)) ∙ (let e : count_ones (n / 2 ^ (k + 1)) + bit_at n k ≡ bit_at n k + count_ones (n / 2 ^ (k + 1)) = omega arith in e)
  where
    one : (b : ℕ) → b < 2 → count_ones b ≡ b
    one zero h = refl
    one (suc zero) h = refl
    one (suc (suc b)) h = absurd (omega arith)

-- ones from bit k on keep the bits from k on, and no others
from-upper : (n k : ℕ) → k ≤ 15 → n < 2 ^ 15 → bit_and n (65535 * 2 ^ k % 65536) / 2 ^ k ≡ n / 2 ^ k
from-upper n k h small = same_from_bits (bit_and n (65535 * 2 ^ k % 65536) / 2 ^ k) (n / 2 ^ k) (λ j.
    ap (λ x. x % 2) (shr-shr (bit_and n (65535 * 2 ^ k % 65536)) k j) ∙ part_bit n k (k + j) h small (cases_lt (k + j) 16) (omega arith) ∙ sym (ap (λ x. x % 2) (shr-shr n k j)))

from-lower : (n k : ℕ) → k ≤ 15 → bit_and n (65535 * 2 ^ k % 65536) % 2 ^ k ≡ 0
from-lower n k h =
    let sum : 16 ≡ (16 - k) + k = omega (arith, h) in
    let none : 65535 * 2 ^ k % 65536 % 2 ^ k ≡ 0 = ap (λ w. 65535 * 2 ^ k % 2 ^ w % 2 ^ k) sum ∙ mod-mod-pow (65535 * 2 ^ k) (16 - k) k ∙ mul-mod_left 65535 (2 ^ k) in
    and_mod n (65535 * 2 ^ k % 65536) k ∙ ap (bit_and (n % 2 ^ k)) none ∙ and_zero_r (n % 2 ^ k)

-- the ones from a bit on are as many as the ranks from it on
ranks-from : (n k : ℕ) → k ≤ 15 → n < 2 ^ 15 → count_ones (bit_and n (65535 * 2 ^ k % 65536)) ≡ count_ones (n / 2 ^ k)
unfolding lib.Count.ones
ranks-from n k h small =
    let x : ℕ = bit_and n (65535 * 2 ^ k % 65536) in
    ap count_ones (sym (split x k) ∙ ap (λ r. x / 2 ^ k * 2 ^ k + r) (from-lower n k h) ∙ ap (λ q. q * 2 ^ k + 0) (from-upper n k h small))
    ∙ ones_cat k (n / 2 ^ k) 0 (pow_pos k) ∙ (let e : count_ones (n / 2 ^ k) + 0 ≡ count_ones (n / 2 ^ k) = omega arith in e)

-- the cards above one of a suit are as many as the ones above its bit
above-ones : (m : ℕ) (s : Suit) (r : ℕ) → r ≤ 14 → length (filter (is_above (card_of s r)) (cards_of m)) ≡ count_ones (lane_of m s / 2 ^ (r + 1))
above-ones m s r h =
    let n : ℕ = lane_of m s in
    let valid : IsMask n = lane-mask (m / 2 ^ suit_shift s) in
    ap length (sym (filter-filter (λ e. nat_lt r e.rank) (is_of s) (cards_of m)) ∙ ap (filter (λ e. nat_lt r e.rank)) (sym (lane-cards m s)) ∙ filter-map (λ e. nat_lt r e.rank) (card_of s) (ranks_of n))
    ∙ length-map (filter (λ q. nat_lt r q) (ranks_of n)) (card_of s)
    ∙ ap length (sym (ranks_of-above n r h valid))
    ∙ length-ranks_of (bit_and n (65535 * 2 ^ (r + 1) % 65536)) (IsMask-and n (65535 * 2 ^ (r + 1) % 65536) valid)
    ∙ ranks-from n (r + 1) (omega (arith, h)) valid.0

-- a place, from which on up as many bits of the lane are set as `depth` says
pub record IsFromTop (m : ℕ) (s : Suit) (depth place : ℕ) : Type 0 where
  pub bound : place ≤ 15
  pub low : (depth ≤ count_ones (lane_of m s / 2 ^ place)) ⊎ (place ≡ 0)
  pub high : (count_ones (lane_of m s / 2 ^ (place + 1)) < depth) ⊎ (place ≡ 15)

-- the place's own bit in a hand
abbrev pub kept : ℕ → Suit → ℕ → ℕ
kept m s place = bit_and m (1 * 2 ^ (suit_shift s + place) % 2 ^ 64)

-- a bit of it is that of the place
kept-at : (m : ℕ) (s : Suit) (place i : ℕ) → place ≤ 15 → bit_at (kept m s place) i ≡ 1 → (i ≡ suit_shift s + place) × (bit_at m i ≡ 1)
kept-at m s place i h set =
    let code = suit_code-lt s in
    let both = sym (bit_at_and m (1 * 2 ^ (suit_shift s + place) % 2 ^ 64) i) ∙ set in
    let a = bit_at-lt m i in
    elim (eqb_tells i (suit_shift s + place)) [
      | inl same ↦ (same.1, omega (arith, both, a))
      | inr other ↦ absurd (
          let none : bit_at (1 * 2 ^ (suit_shift s + place) % 2 ^ 64) i ≡ 0 = ap (λ x. bit_at x i) (one_shl (suit_shift s + place) 64 (omega (arith, h, code))) ∙ bit_at-pow_other (suit_shift s + place) i other.1 in
          omega (arith, both, none))
    ]

at-kept : (m : ℕ) (s : Suit) (place : ℕ) → place ≤ 15 → bit_at m (suit_shift s + place) ≡ 1 → bit_at (kept m s place) (suit_shift s + place) ≡ 1
at-kept m s place h set =
    let code = suit_code-lt s in
    let one : bit_at (1 * 2 ^ (suit_shift s + place) % 2 ^ 64) (suit_shift s + place) ≡ 1 = ap (λ x. bit_at x (suit_shift s + place)) (one_shl (suit_shift s + place) 64 (omega (arith, h, code))) ∙ bit_at-pow_same (suit_shift s + place) in
    bit_at_and m (1 * 2 ^ (suit_shift s + place) % 2 ^ 64) (suit_shift s + place) ∙ omega (arith, one, set)

-- a card that is kept has as many above it as one fewer than the depth
pub card-kept : (m : ℕ) (s : Suit) (depth place : ℕ) (c : PlayingCard) → IsFromTop m s depth place → has_card (cards_of (kept m s place)) c ≡ true
    → (has_card (cards_of m) c ≡ true) × (c.suit ≡ s) × (length (filter (is_above c) (cards_of m)) + 1 ≡ depth)
card-kept m s depth place c is h =
    let real = cards-real (kept m s place) c h in
    let low = real.0 in
    let high = real.1 in
    let set : bit_at (kept m s place) (place_of c) ≡ 1 = eqb-true _ _ (sym (has_card-cards_of (kept m s place) c real) ∙ h) in
    let at = kept-at m s place (place_of c) is.bound set in
    let where_is = at.0 in
    let most = is.bound in
    let a = suit_code-lt s in
    let b = suit_code-lt c.suit in
    let code : suit_code c.suit ≡ suit_code s = omega (arith, where_is, low, high, most, a, b) in
    let suit : c.suit ≡ s = suit_code-injective c.suit s code in
    let rank : c.rank ≡ place = omega (arith, where_is, code) in
    let bit : bit_at (lane_of m s) c.rank ≡ 1 = lane-bit m s c.rank real ∙ ap (λ (u : Suit). bit_at m (suit_shift u + c.rank)) (sym suit) ∙ at.1 in
    let split = ones-from (lane_of m s) c.rank in
    let above = above-ones m s c.rank high in
    let floor : depth ≤ count_ones (lane_of m s / 2 ^ c.rank) = rw rank (elim is.low [ inl l ↦ l | inr z ↦ absurd (omega (arith, z, rank, low)) ]) in
    let over : count_ones (lane_of m s / 2 ^ (c.rank + 1)) < depth = rw rank (elim is.high [ inl l ↦ l | inr z ↦ absurd (omega (arith, z, rank, high)) ]) in (
      sym (sym (has_card-cards_of m c real)) ∙ eq-eqb _ _ at.1,
      suit,
      ap (λ (u : Suit). length (filter (is_above (card_of u c.rank)) (cards_of m)) + 1) suit ∙ omega (arith, split, above, floor, over, bit),
    )

-- where the suit has as many cards, one is kept
pub some-kept : (m : ℕ) (s : Suit) (depth place : ℕ) → IsFromTop m s depth place → 1 ≤ depth → depth ≤ length (filter (is_of s) (cards_of m)) → (c : PlayingCard) × (has_card (cards_of (kept m s place)) c ≡ true)
unfolding lib.Count.ones
some-kept m s depth place is some enough =
    let n : ℕ = lane_of m s in
    let valid : IsMask n = lane-mask (m / 2 ^ suit_shift s) in
    let all : length (filter (is_of s) (cards_of m)) ≡ count_ones n = ap length (sym (lane-cards m s)) ∙ length-map (ranks_of n) (card_of s) ∙ length-ranks_of n valid in
    let whole : n / 2 ^ 0 ≡ n = omega arith in
    let floor : depth ≤ count_ones (n / 2 ^ place) = elim is.low [
      | inl l ↦ l
      | inr z ↦ (let e : count_ones (n / 2 ^ place) ≡ count_ones n = ap (λ k. count_ones (n / 2 ^ k)) z ∙ ap count_ones whole in omega (arith, e, all, enough))
    ] in
    let split = ones-from n place in
    let small = valid.0 in
    let bit : bit_at n place ≡ 1 = elim is.high [
      | inl l ↦ (let b = bit_at-lt n place in omega (arith, l, floor, split, b))
      | inr z ↦ absurd (
          let none : n / 2 ^ 15 ≡ 0 = omega (arith, small) in
          let e : count_ones (n / 2 ^ place) ≡ 0 = ap (λ k. count_ones (n / 2 ^ k)) z ∙ ap count_ones none in
          omega (arith, e, floor, some))
    ] in
    let real : IsRank place = (two_le n place valid bit, le_14 n place valid bit) in
    let top = real.1 in
    let set : bit_at m (suit_shift s + place) ≡ 1 = sym (lane-bit m s place real) ∙ bit in
    (card_of s place, has_card-cards_of (kept m s place) (card_of s place) real ∙ eq-eqb _ _ (at-kept m s place is.bound set))
