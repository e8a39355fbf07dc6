use Rattle.std.proofs.Common.{arith}
use Rattle.dd_cards.proofs.HandLists.{bit_of-and}
use Rattle.dd_cards.proofs.Heads.{cards_of-difference}
use Rattle.dd_cards.proofs.hand.Hand.difference.Goals as goal

pub invariant_of-result : goal.invariant_of-result
invariant_of-result c = λ i h. c.self.invariant i (bit_of-and _ _ i h)

pub returns : goal.returns
returns c = rw (← c.self.view_is, ← c.other.view_is) (cards_of-difference c.self.inside.mask c.other.inside.mask (omega arith))
