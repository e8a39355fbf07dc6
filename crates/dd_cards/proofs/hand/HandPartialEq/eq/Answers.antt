use Rattle.dd_cards.specs.HandMaskLaws.{hand_mask_of-cards}
use Rattle.dd_cards.proofs.hand.HandPartialEq.eq.Goals as goal

pub returns : goal.returns
returns c = rw (← c.t1-1.view_is, ← c.t2-1.view_is, hand_mask_of-cards _ c.t1-1.invariant, hand_mask_of-cards _ c.t2-1.invariant) c.eq.ensures
