use Rattle.dd_cards.proofs.HandLists.{bit_of-and}
use Rattle.dd_cards.proofs.Kept.{cards_of-from, bits-fall}
use Rattle.dd_cards.proofs.hand.Hand.without_below.Goals as goal

pub overflow_sub-result : goal.overflow_sub-result
overflow_sub-result c = rw (c.shift-shift.ensures.value, c.code.ensures.value) (bits-fall c.args.suit c.args.rank (rw (← c.code.ensures.value) (c.code.ensures.low, c.code.ensures.high)))

pub invariant_of-result : goal.invariant_of-result
invariant_of-result c = λ i h. c.self.invariant i (bit_of-and _ _ i h)

pub returns : goal.returns
returns c =
    rw (← c.self.view_is, c.shift-shift.ensures.value, c.code.ensures.value)
    (cards_of-from c.self.inside.mask c.args.suit c.args.rank (rw (← c.code.ensures.value) (c.code.ensures.low, c.code.ensures.high)))
