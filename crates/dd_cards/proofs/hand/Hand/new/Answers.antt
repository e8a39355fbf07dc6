use Rattle.dd_cards.proofs.HandLists.{cards_of-zero}
use Rattle.dd_cards.proofs.hand.Hand.new.Goals as goal

pub returns : goal.returns
returns c = cards_of-zero
