use Rattle.dd_cards.proofs.HandLists.{cards_of-insert}
use Rattle.dd_cards.proofs.Unions.{IsHandMask-insert}
use Rattle.dd_cards.proofs.hand.Hand.with.Goals as goal

pub invariant_of-result : goal.invariant_of-result
invariant_of-result c = rw c.place.ensures.value (IsHandMask-insert _ _ c.place.ensures.rank c.self.invariant)

pub returns : goal.returns
returns c = rw (← c.self.view_is, c.place.ensures.value) (cards_of-insert _ _ c.place.ensures.rank (rw (← c.place.ensures.value) c.place.ensures.bound))
