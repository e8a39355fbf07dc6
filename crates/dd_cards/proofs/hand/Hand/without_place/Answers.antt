use Rattle.dd_cards.proofs.HandLists.{cards_of-remove, bit_of-and, place_of-lt}
use Rattle.dd_cards.proofs.hand.Hand.without_place.Goals as goal

pub invariant_of-result : goal.invariant_of-result
invariant_of-result c = λ i h. c.self.invariant i (bit_of-and _ _ i h)

pub returns : goal.returns
returns c = rw (← c.self.view_is, c.number.ensures.value) (cards_of-remove _ _ c.number.ensures.real (place_of-lt _ c.number.ensures.real))
