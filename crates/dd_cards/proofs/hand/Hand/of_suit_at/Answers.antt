use Rattle.dd_cards.proofs.HandLists.{bit_of-and}
use Rattle.dd_cards.proofs.Firsts.{cards_of-suit}
use Rattle.dd_cards.proofs.hand.Hand.of_suit_at.Goals as goal

pub invariant_of-result : goal.invariant_of-result
invariant_of-result c = λ i h. c.self.invariant i (bit_of-and _ _ i h)

pub returns : goal.returns
returns c = rw (← c.self.view_is, c.shift.ensures.value) (cards_of-suit _ _)
