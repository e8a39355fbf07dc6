use Rattle.dd_cards.proofs.SameLaws.{masks-told}
use Rattle.dd_cards.proofs.hands.is_same_hand.Goals as goal

pub returns : goal.returns
returns c = masks-told _ _ _ _ c.mask.ensures.mask c.mask-2.ensures.mask c.mask.ensures.cards c.mask-2.ensures.cards
