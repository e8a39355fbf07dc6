-- A mask of cards with yes or no in its lowest bit: no card has that.
use Rattle.std.proofs.Common.{◌≡◌, ◌+◌, ◌*◌, ◌/◌, ◌%◌, ◌≤◌, ℕ, Bool, true, false, cond, ap, arith, inl, inr, nat_eq}
use Rattle.std.proofs.lemmas.Nat.Bits.{bit_at-lt, bit_at_lowest}
use Rattle.std.proofs.lemmas.Bool.Decides.{eqb_tells}
use Rattle.std.specs.Int.{bit_at}
use Rattle.dd_cards.specs.HandMasks.{IsHandMask}

-- no card has the lowest bit
pub even : (m : ℕ) → IsHandMask m → m % 2 ≡ 0
even m only = elim (eqb_tells (bit_at m 0) 1) [
  | inl same ↦ absurd (let low = (only 0 same.1).1 in omega (arith, low))
  | inr other ↦ (let l = bit_at-lt m 0 in let e = bit_at_lowest m in omega (arith, other.1, l, e))
]

-- the mask is read back
pub mask-back : (m said : ℕ) → IsHandMask m → said ≤ 1 → (m + said) / 2 * 2 ≡ m
mask-back m said only little = let e = even m only in omega (arith, e, little)

-- and what was said
pub said-back : (m said : ℕ) (yes : Bool) → IsHandMask m → said ≡ cond yes 1 0 → nat_eq ((m + said) % 2) 1 ≡ yes
said-back m said true only is = let e = even m only in let one : (m + said) % 2 ≡ 1 = omega (arith, e, is) in ap (λ k. nat_eq k 1) one
said-back m said false only is = let e = even m only in let none : (m + said) % 2 ≡ 0 = omega (arith, e, is) in ap (λ k. nat_eq k 1) none

-- which is 0 or 1
pub said-little : (yes : Bool) (said : ℕ) → said ≡ cond yes 1 0 → said ≤ 1
said-little true said is = omega (arith, is)
said-little false said is = omega (arith, is)
