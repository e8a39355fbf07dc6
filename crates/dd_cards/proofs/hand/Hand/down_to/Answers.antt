use Rattle.dd_cards.proofs.Places.{from-falls, from-valid, cards_of-down_to}
use Rattle.dd_cards.proofs.hand.Hand.down_to.Goals as goal

pub overflow_sub-result : goal.overflow_sub-result
overflow_sub-result c = rw (c.shift.ensures.value, c.number.ensures.value) (from-falls _ c.number.ensures.real)

pub invariant_of-result : goal.invariant_of-result
invariant_of-result c = rw (c.shift.ensures.value, c.number.ensures.value) (from-valid _ c.number.ensures.real)

pub returns : goal.returns
returns c = rw (c.shift.ensures.value, c.number.ensures.value) (cards_of-down_to _ c.number.ensures.real)
