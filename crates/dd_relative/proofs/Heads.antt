-- the highest cards of runs, by their bits
use Rattle.std.proofs.Common.{◌≡◌, ℕ, zero, suc, ◌+◌, ◌-◌, ◌/◌, ◌%◌, ◌^◌, ◌<◌, true, false, refl, sym, ap, ◌∙◌, arith, inl, inr, bit_and, min, w64}
use Rattle.std.specs.Prelude.{◌==◌, ◌&&◌}
use mathlib.Core.Bool.{not}
use mathlib.Core.Path.{ap₂}
use Rattle.std.specs.Int.{bit_at, bit_not}
use Rattle.std.proofs.lemmas.Bool.{cases_lt, eqb-true, false_from_ne_true}
use Rattle.std.proofs.lemmas.Bool.Decides.{eqb_tells}
use Rattle.std.proofs.lemmas.Nat.{shr-shr, shr_le}
use Rattle.std.proofs.lemmas.Nat.Bits.{bit_at-lt, bit_at-zero, bit_at_and, bit_at_not}
use Rattle.dd_cards.specs.PlayingCard.{PlayingCard}
use Rattle.dd_cards.specs.Ranks.{IsRank}
use Rattle.dd_cards.specs.Cards.{has_card, place_of}
use Rattle.dd_cards.specs.HandMasks.{IsHandMask, cards_of}
use Rattle.dd_cards.proofs.CallerLemmas.{IsSet-filter, has_card-filter, real-set, same-members, suit_code-lt, has_card-cards_of}
use Rattle.dd_relative.specs.Runs.{next_above, heads_of}
use Rattle.dd_relative.proofs.Moved.{cards-set}

-- two bits, of which the second is turned
turned : (b e : ℕ) → b < 2 → e < 2 → (min b (1 - e) == 1) ≡ (not (e == 1) && (b == 1))
turned zero zero lb le = refl
turned zero (suc zero) lb le = refl
turned (suc zero) zero lb le = refl
turned (suc zero) (suc zero) lb le = refl
turned (suc (suc b)) e lb le = absurd (omega (arith, lb))
turned zero (suc (suc e)) lb le = absurd (omega (arith, le))
turned (suc zero) (suc (suc e)) lb le = absurd (omega (arith, le))

-- the bit above a card's
pub above-bit : (m : ℕ) (c : PlayingCard) → IsHandMask m → IsRank c.rank → (bit_at m (place_of c + 1) == 1) ≡ has_card (cards_of m) (next_above c)
above-bit m c valid real = elim (cases_lt c.rank 14) [
  | inl low ↦ (
      let b = real.0 in
      ap (λ i. bit_at m i == 1) (let e : place_of c + 1 ≡ place_of (next_above c) = omega arith in e) ∙ sym (has_card-cards_of m (next_above c) (omega (arith, b), omega (arith, low))))
  | inr high ↦ (
      let none : has_card (cards_of m) (next_above c) ≡ false = false_from_ne_true _ (λ h. let t = (real-set (cards_of m) (next_above c) (cards-set m) h).1 in omega (arith, t, high)) in
      let clear : (bit_at m (place_of c + 1) == 1) ≡ false = elim (eqb_tells (bit_at m (place_of c + 1)) 1) [
        | inl same ↦ absurd (let t = (valid (place_of c + 1) same.1).2 in let k = suit_code-lt c.suit in let top = real.1 in omega (arith, t, high, k, top))
        | inr other ↦ other.0
      ] in
      clear ∙ sym none)
]

pub heads-cards : (m : ℕ) → IsHandMask m → m < 2 ^ 64 → cards_of (bit_and m (bit_not w64 (m / 2 ^ 1))) ≡ heads_of (cards_of m)
heads-cards m valid fits =
    same-members (cards_of (bit_and m (bit_not w64 (m / 2 ^ 1)))) (heads_of (cards_of m)) (cards-set _) (IsSet-filter (λ c. not (has_card (cards_of m) (next_above c))) (cards_of m) (cards-set m))
    (λ c real.
    let k = suit_code-lt c.suit in
    let top = real.1 in
    let p : place_of c < 64 = omega (arith, k, top) in
    let n : bit_at (bit_not w64 (m / 2 ^ 1)) (place_of c) ≡ 1 - bit_at m (place_of c + 1) =
    bit_at_not w64 (m / 2 ^ 1) (place_of c) (let l = shr_le m 1 in omega (arith, l, fits)) p
    ∙ ap (λ x. 1 - x) (ap (λ x. x % 2) (shr-shr m 1 (place_of c)) ∙ ap (bit_at m) (let e : 1 + place_of c ≡ place_of c + 1 = omega arith in e)) in
    has_card-cards_of (bit_and m (bit_not w64 (m / 2 ^ 1))) c real
    ∙ ap (λ x. x == 1) (bit_at_and m (bit_not w64 (m / 2 ^ 1)) (place_of c) ∙ ap (min (bit_at m (place_of c))) n)
    ∙ turned (bit_at m (place_of c)) (bit_at m (place_of c + 1)) (bit_at-lt m (place_of c)) (bit_at-lt m (place_of c + 1))
    ∙ ap₂ (λ a b. not a && b) (above-bit m c valid real) (sym (has_card-cards_of m c real))
    ∙ sym (has_card-filter (λ x. not (has_card (cards_of m) (next_above x))) (cards_of m) c))

-- where no bit is next below one of these, but is not one of them, no card is
pub none-below : (m n : ℕ) → IsHandMask m → m < 2 ^ 64 → bit_and (bit_and (m / 2 ^ 1) n) (bit_not w64 m) ≡ 0
    → (c : PlayingCard) → has_card (cards_of n) c ≡ true → has_card (cards_of m) (next_above c) ≡ true → has_card (cards_of m) c ≡ true
none-below m n valid fits none c mine over = elim (eqb_tells (bit_at m (place_of c)) 1) [
  | inl same ↦ has_card-cards_of m c real ∙ same.0
  | inr other ↦ absurd (
      let clear : bit_at m (place_of c) ≡ 0 = (let l = bit_at-lt m (place_of c) in let o = other.1 in omega (arith, l, o)) in
      let up : bit_at (m / 2 ^ 1) (place_of c) ≡ 1 =
      ap (λ x. x % 2) (shr-shr m 1 (place_of c)) ∙ ap (bit_at m) (let e : 1 + place_of c ≡ place_of c + 1 = omega arith in e)
      ∙ eqb-true (bit_at m (place_of c + 1)) 1 (above-bit m c valid real ∙ over) in
      let own : bit_at n (place_of c) ≡ 1 = eqb-true (bit_at n (place_of c)) 1 (sym (has_card-cards_of n c real) ∙ mine) in
      let flipped : bit_at (bit_not w64 m) (place_of c) ≡ 1 - bit_at m (place_of c) = bit_at_not w64 m (place_of c) fits (let k = suit_code-lt c.suit in let top = real.1 in omega (arith, k, top)) in
      let both : bit_at (bit_and (bit_and (m / 2 ^ 1) n) (bit_not w64 m)) (place_of c) ≡ min (min (bit_at (m / 2 ^ 1) (place_of c)) (bit_at n (place_of c))) (bit_at (bit_not w64 m) (place_of c)) =
      bit_at_and (bit_and (m / 2 ^ 1) n) (bit_not w64 m) (place_of c) ∙ ap (λ x. min x (bit_at (bit_not w64 m) (place_of c))) (bit_at_and (m / 2 ^ 1) n (place_of c)) in
      let zero_there : bit_at (bit_and (bit_and (m / 2 ^ 1) n) (bit_not w64 m)) (place_of c) ≡ 0 = ap (λ x. bit_at x (place_of c)) none ∙ bit_at-zero (place_of c) in
      omega (arith, clear, up, own, flipped, both, zero_there))
]
  where
    real : IsRank c.rank
    real = real-set (cards_of n) c (cards-set n) mine
