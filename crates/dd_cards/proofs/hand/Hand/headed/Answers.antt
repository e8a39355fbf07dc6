use Rattle.dd_cards.proofs.HandLists.{bit_of-and}
use Rattle.dd_cards.proofs.Heads.{headed-of}
use Rattle.dd_cards.proofs.hand.Hand.headed.Goals as goal

pub invariant_of-result : goal.invariant_of-result
invariant_of-result c = λ i h. c.self.invariant i (bit_of-and _ _ i h)

pub returns : goal.returns
returns c = rw (← c.self.view_is, ← c.tops.view_is, ← c.others.view_is) (headed-of c.self.inside.mask c.tops.inside.mask c.others.inside.mask _ c.places_below.ensures)
