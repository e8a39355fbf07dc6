use Rattle.dd_cards.proofs.HandLists.{bit_of-and}
use Rattle.dd_cards.proofs.Places.{cards_of-fewer}
use Rattle.dd_cards.proofs.hand.Hand.among.Goals as goal

pub invariant_of-result : goal.invariant_of-result
invariant_of-result c = λ i h. c.self.invariant i (bit_of-and _ _ i h)

pub returns : goal.returns
returns c = rw (← c.self.view_is) (cards_of-fewer c.self.inside.mask c.args.mask)
