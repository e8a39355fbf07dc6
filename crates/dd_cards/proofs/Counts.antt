-- how many cards a hand's bits stand for
use Rattle.std.proofs.Common.{◌≡◌, ℕ, zero, suc, ◌+◌, ◌/◌, ◌%◌, ◌^◌, ◌<◌, ◌≤◌, true, false, refl, sym, ap, ◌∙◌, arith, List, [], ◌∷◌, length, inl, inr}
use Rattle.std.specs.Prelude.{filter, map, ◌&&◌, count_ones}
use Rattle.std.specs.Int.{bit_at}
use Rattle.std.proofs.lemmas.Bool.{eqb-true, le-leb, cases_lt}
use Rattle.std.proofs.lemmas.List.{length-map}
use Rattle.std.proofs.lemmas.Nat.{ones_cat, shr-shr, mod_below, pow_pos}
use Rattle.std.proofs.lemmas.Nat.Bits.{bit_at-lt, bit_at-zero, same_from_bits}
use Rattle.std.proofs.Math.Nat.{mod-eq_of_lt}
use Rattle.dd_cards.specs.Ranks.{IsRank, is_rank}
use Rattle.dd_cards.specs.Masks.{in_mask}
use Rattle.dd_cards.specs.MaskLaws.{digit}
use Rattle.dd_cards.specs.Cards.{deck, place_of}
use Rattle.dd_cards.specs.HandMasks.{in_hand, cards_of, IsHandMask}
use Rattle.dd_cards.proofs.RankLists.{length-cond, digit_count}
use Rattle.dd_cards.proofs.General.{and-false, filter-filter, filter-map}
use Rattle.std.proofs.lemmas.List.Elements.{filter_agree}

-- the k lowest places, from the top
abbrev places : ℕ → List ℕ
places zero = []
places (suc k) = k ∷ places k

-- as many bits are set as there are places whose bit is set
length-places : (m k : ℕ) → length (filter (in_mask m) (places k)) ≡ count_ones (m % 2 ^ k)
unfolding lib.Count.ones
length-places m zero = let e : m % 1 ≡ 0 = omega arith in rw e refl
length-places m (suc k) =
    let kept : List ℕ = filter (in_mask m) (places k) in
    length-cond (in_mask m k) k kept
    ∙ ap (λ x. x + length kept) (digit_count (bit_at m k) (bit_at-lt m k))
    ∙ ap (λ x. count_ones (bit_at m k) + x) (length-places m k)
    ∙ sym (ones_cat k (bit_at m k) (m % 2 ^ k) (mod_below m (2 ^ k) (pow_pos k)))
    ∙ ap count_ones (sym (digit m k))
    ∙ ap (λ x. count_ones (m % 2 ^ x)) (let e : k + 1 ≡ suc k = omega arith in e)

-- the places of the deck are those that stand for a rank
places-deck : map place_of deck ≡ filter (λ i. is_rank (i % 16)) (places 64)
unfolding deck Rattle.dd_cards.specs.Cards.suit_cards Rattle.dd_cards.specs.Ranks.all_ranks Rattle.dd_cards.specs.Ranks.lowest_ranks
places-deck = refl

-- a place whose bit is set stands for a rank
set-is-rank : (m i : ℕ) → IsHandMask m → (is_rank (i % 16) && in_mask m i) ≡ in_mask m i
set-is-rank m i valid =
    elim (in_mask m i) as (λ b. in_mask m i ≡ b → (is_rank (i % 16) && b) ≡ b) [
      | true ↦ λ e. (let real = valid i (eqb-true _ _ e) in rw (le-leb 2 (i % 16) real.1, le-leb (i % 16) 14 real.2) refl)
      | false ↦ λ e. sym (and-false (is_rank (i % 16)))
    ] refl

-- a hand's mask has 64 bits
pub IsHandMask-small : (m : ℕ) → IsHandMask m → m < 2 ^ 64
IsHandMask-small m valid =
    let none : m / 2 ^ 64 ≡ 0 = same_from_bits (m / 2 ^ 64) 0 (λ j. ap (λ x. x % 2) (shr-shr m 64 j) ∙ clear (64 + j) (omega arith) ∙ sym (bit_at-zero j)) in
    omega arith
  where
    clear : (i : ℕ) → 64 ≤ i → bit_at m i ≡ 0
    clear i high = elim (cases_lt (bit_at m i) 1) [
      | inl less ↦ omega arith
      | inr more ↦ (let b = bit_at-lt m i in let one : bit_at m i ≡ 1 = omega arith in let low : i < 64 = (valid i one).0 in absurd (omega arith))
    ]

-- a hand has as many cards as its mask has bits set
pub length-cards_of : (m : ℕ) → IsHandMask m → length (cards_of m) ≡ count_ones m
unfolding cards_of
length-cards_of m valid =
    sym (length-map (filter (in_hand m) deck) place_of)
    ∙ ap length (sym (filter-map (in_mask m) place_of deck))
    ∙ ap (λ is. length (filter (in_mask m) is)) places-deck
    ∙ ap length (filter-filter (in_mask m) (λ i. is_rank (i % 16)) (places 64))
    ∙ ap length (filter_agree (λ i. is_rank (i % 16) && in_mask m i) (in_mask m) (λ i. set-is-rank m i valid) (places 64))
    ∙ length-places m 64
    ∙ ap count_ones (mod-eq_of_lt (IsHandMask-small m valid))
