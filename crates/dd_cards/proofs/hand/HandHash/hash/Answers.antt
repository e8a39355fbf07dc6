use Rattle.dd_cards.specs.HandMaskLaws.{hand_mask_of-cards}
use Rattle.dd_cards.proofs.hand.HandHash.hash.Goals as goal

pub returns : goal.returns
returns g c = rw (← c.t1-1.view_is, hand_mask_of-cards _ c.t1-1.invariant) c.hash.ensures
