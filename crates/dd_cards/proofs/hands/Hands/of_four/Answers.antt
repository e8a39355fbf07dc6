use Rattle.dd_cards.proofs.Places.{AreHandMasks-four}
use Rattle.dd_cards.proofs.hands.Hands.of_four.Goals as goal

pub invariant_of-result : goal.invariant_of-result
invariant_of-result c =
    AreHandMasks-four _ _ _ _ _ _ _ _ c.mask.ensures.mask c.mask-2.ensures.mask c.mask-3.ensures.mask c.mask-4.ensures.mask
    c.mask.ensures.cards c.mask-2.ensures.cards c.mask-3.ensures.cards c.mask-4.ensures.cards c.requires
