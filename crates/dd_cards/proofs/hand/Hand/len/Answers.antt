use Rattle.std.proofs.Common.{sym}
use Rattle.dd_cards.proofs.Counts.{length-cards_of}
use Rattle.dd_cards.proofs.hand.Hand.len.Goals as goal

pub returns : goal.returns
returns c = rw (← c.self.view_is) (sym (length-cards_of _ c.self.invariant))
