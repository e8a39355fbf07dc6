use Rattle.std.proofs.Common.{arith}
use Rattle.dd_cards.proofs.HandLists.{bit_of-and}
use Rattle.dd_cards.proofs.Heads.{heads-of}
use Rattle.dd_cards.proofs.hand.Hand.heads.Goals as goal

pub invariant_of-result : goal.invariant_of-result
invariant_of-result c = λ i h. c.self.invariant i (bit_of-and _ _ i h)

pub returns : goal.returns
returns c = rw (← c.self.view_is, ← c.others.view_is) (heads-of c.self.inside.mask c.others.inside.mask _ (omega arith) c.places_below.ensures)
