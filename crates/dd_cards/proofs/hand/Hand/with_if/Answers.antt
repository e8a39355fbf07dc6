use Rattle.std.proofs.Common.{◌≡◌, ℕ, ◌*◌, ◌%◌, ◌^◌, ap, ◌∙◌, bit_or, arith}
use Rattle.std.specs.Int.Bits.{or_zero_r}
use Rattle.dd_cards.proofs.HandLists.{cards_of-insert}
use Rattle.dd_cards.proofs.Unions.{IsHandMask-insert}
use Rattle.dd_cards.proofs.hand.Hand.with_if.Goals as goal
use Rattle.dd_cards.proofs.hand.Hand.with_if.Goals.{then-wanted, else-wanted}

-- a bit that is not wanted changes nothing
none : (m p bit : ℕ) → bit ≡ 0 → bit_or m (bit * 2 ^ p % 2 ^ 64) ≡ m
none m p bit e = ap (λ b. bit_or m (b * 2 ^ p % 2 ^ 64)) e ∙ ap (bit_or m) (let z : 0 * 2 ^ p % 2 ^ 64 ≡ 0 = omega arith in z) ∙ or_zero_r m

pub invariant_of-result : goal.invariant_of-result
invariant_of-result c = elim c.if-wanted.branch [
  | then-wanted w ↦ rw (w.bit-is, c.place.ensures.value) (IsHandMask-insert _ _ c.place.ensures.rank c.self.invariant)
  | else-wanted w ↦ rw (none c.self.inside.mask c.place.result c.if-wanted.bit w.bit-is) c.self.invariant
]

pub returns-clause-cards : goal.returns-clause-cards
returns-clause-cards c = elim c.if-wanted.branch [
  | then-wanted w ↦ rw (w.bit-is, w.if-wanted.true, ← c.self.view_is, c.place.ensures.value) (cards_of-insert _ _ c.place.ensures.rank (rw (← c.place.ensures.value) c.place.ensures.bound))
  | else-wanted w ↦ rw (none c.self.inside.mask c.place.result c.if-wanted.bit w.bit-is, w.if-wanted.false) c.self.view_is
]
