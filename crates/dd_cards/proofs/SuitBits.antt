-- the bits of one suit of a hand
use Rattle.std.proofs.Common.{◌≡◌, ℕ, zero, suc, ◌+◌, ◌-◌, ◌/◌, ◌%◌, ◌^◌, ◌<◌, ◌≤◌, ◌⊎◌, refl, sym, ap, ◌∙◌, subst, arith, inl, inr, bit_and, min, length}
use Rattle.std.specs.Prelude.{filter, map, ◌==◌, ◌&&◌, count_ones}
use Rattle.std.specs.Int.{bit_at}
use Rattle.std.proofs.lemmas.Nat.{and_mask, shr-shr}
use Rattle.std.proofs.lemmas.Nat.Bits.{bit_at-lt, bit_at_and, bit_at_above, bit_at_mask_inside, bit_at_ones, bit_at_ones_above, same_from_bits}
use Rattle.std.proofs.lemmas.Bool.{cases_lt}
use Rattle.std.proofs.lemmas.List.{length-map}
use Rattle.dd_cards.specs.declared.suit.Suit.{Suit}
use Rattle.dd_cards.specs.declared.suit.Suit.TheVariants.{Spades, Hearts, Diamonds, Clubs}
use Rattle.dd_cards.specs.Suits.{suit_shift}
use Rattle.dd_cards.specs.Ranks.{IsRank}
use Rattle.dd_cards.specs.Masks.{IsMask, ranks_of}
use Rattle.dd_cards.specs.Cards.{is_of, card_of, deck, has_card}
use Rattle.dd_cards.specs.HandMasks.{IsHandMask, in_hand, cards_of}
use Rattle.dd_cards.proofs.CardLists.{has_card-deck}
use Rattle.dd_cards.proofs.General.{and-true}
use Rattle.dd_cards.proofs.Lanes.{lane-cards, lane-mask}
use Rattle.dd_cards.proofs.RankLists.{length-ranks_of}
use Rattle.dd_cards.proofs.SetLaws.{has_card-filter}

-- a hand has only bits of ranks in a lane
lane-whole : (m : ℕ) (s : Suit) → IsHandMask m → bit_and (m / 2 ^ suit_shift s) 32764 ≡ m / 2 ^ suit_shift s % 2 ^ 16
lane-whole m s valid = same_from_bits _ _ (λ i. bit_at_and n 32764 i ∙ go i (bit_at n i) refl (cases_lt i 16) ∙ sym (bit_at_and n (2 ^ 16 - 1) i) ∙ ap (λ x. bit_at x i) (and_mask n 16))
  where
    n : ℕ
    n = m / 2 ^ suit_shift s

    rank-bit : (i : ℕ) → i < 16 → bit_at n i ≡ 1 → (2 ≤ i) × (i ≤ 14)
    rank-bit i low one = by-suit s (valid (suit_shift s + i) (sym (ap (λ x. x % 2) (shr-shr m (suit_shift s) i)) ∙ one))
      where
        by-suit : (s : Suit) → (suit_shift s + i < 64) × (2 ≤ (suit_shift s + i) % 16) × ((suit_shift s + i) % 16 ≤ 14) → (2 ≤ i) × (i ≤ 14)
        by-suit Spades h = (let a = h.1 in let b = h.2 in omega (arith, a, low), let b = h.2 in omega (arith, b, low))
        by-suit Hearts h = (let a = h.1 in omega (arith, a, low), let b = h.2 in omega (arith, b, low))
        by-suit Diamonds h = (let a = h.1 in omega (arith, a, low), let b = h.2 in omega (arith, b, low))
        by-suit Clubs h = (let a = h.1 in omega (arith, a, low), let b = h.2 in omega (arith, b, low))

    go : (i b : ℕ) → bit_at n i ≡ b → (i < 16) ⊎ (16 ≤ i) → min (bit_at n i) (bit_at 32764 i) ≡ min (bit_at n i) (bit_at (2 ^ 16 - 1) i)
    go i zero e side = rw e (let z : min 0 (bit_at 32764 i) ≡ min 0 (bit_at (2 ^ 16 - 1) i) = omega arith in z)
    go i (suc zero) e (inl low) = (let r = rank-bit i low e in ap (min (bit_at n i)) (bit_at_mask_inside 2 15 i r.0 (let h = r.1 in omega (arith, h)) ∙ sym (bit_at_ones 16 i low)))
    go i (suc zero) e (inr high) = ap (min (bit_at n i)) (bit_at_above 32764 15 i (omega arith) (omega (arith, high)) ∙ sym (bit_at_ones_above 16 i high))
    go i (suc (suc b)) e side = absurd (let l = bit_at-lt n i in omega (arith, e, l))

-- so a lane is the mask of a holding
pub lane-valid : (m : ℕ) (s : Suit) → IsHandMask m → IsMask (m / 2 ^ suit_shift s % 2 ^ 16)
lane-valid m s valid = subst IsMask (lane-whole m s valid) (lane-mask (m / 2 ^ suit_shift s))

-- a hand has as many cards of a suit as bits are set in its lane
pub suit-ones : (m : ℕ) (s : Suit) → IsHandMask m → length (filter (is_of s) (cards_of m)) ≡ count_ones (m / 2 ^ suit_shift s % 2 ^ 16)
suit-ones m s valid =
    ap length (sym (lane-cards m s)) ∙ length-map (ranks_of (bit_and (m / 2 ^ suit_shift s) 32764)) (card_of s)
    ∙ length-ranks_of (bit_and (m / 2 ^ suit_shift s) 32764) (lane-mask (m / 2 ^ suit_shift s)) ∙ ap count_ones (lane-whole m s valid)

-- a hand has a card where the bit of its rank is set in the lane of its suit
pub card-bit : (m : ℕ) (s : Suit) (r : ℕ) → IsRank r → has_card (cards_of m) (card_of s r) ≡ (bit_at (m / 2 ^ suit_shift s) r == 1)
unfolding cards_of
card-bit m s r real =
    has_card-filter (in_hand m) deck (card_of s r) ∙ ap (λ b. in_hand m (card_of s r) && b) (has_card-deck (card_of s r) real) ∙ sym (and-true (in_hand m (card_of s r)))
    ∙ ap (λ n. n % 2 == 1) (sym (shr-shr m (suit_shift s) r))
