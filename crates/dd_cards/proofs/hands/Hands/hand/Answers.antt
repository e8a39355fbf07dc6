use Rattle.dd_cards.proofs.Sets.{AreHands-masks}
use Rattle.dd_cards.proofs.hands.Hands.hand.Goals as goal

pub returns-clause-hands : goal.returns-clause-hands
returns-clause-hands c = rw (← c.self.view_is) (AreHands-masks _ c.self.invariant)
