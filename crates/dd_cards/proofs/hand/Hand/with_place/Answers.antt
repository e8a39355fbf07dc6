use Rattle.dd_cards.proofs.HandLists.{cards_of-insert, place_of-lt}
use Rattle.dd_cards.proofs.Unions.{IsHandMask-insert}
use Rattle.dd_cards.proofs.hand.Hand.with_place.Goals as goal

pub invariant_of-result : goal.invariant_of-result
invariant_of-result c = rw c.number.ensures.value (IsHandMask-insert _ _ c.number.ensures.real c.self.invariant)

pub returns : goal.returns
returns c = rw (← c.self.view_is, c.number.ensures.value) (cards_of-insert _ _ c.number.ensures.real (place_of-lt _ c.number.ensures.real))
