use Rattle.dd_cards.proofs.Lanes.{lane-mask, lane-cards}
use Rattle.dd_cards.proofs.Unions.{cards-real}
use Rattle.dd_cards.proofs.hand.Hand.holding.Goals as goal

pub of_mask-requires : goal.of_mask-requires
of_mask-requires c = lane-mask _

pub returns-clause-ranks : goal.returns-clause-ranks
returns-clause-ranks c = rw (← c.self.view_is, c.of_mask.ensures, c.shift.ensures.value) (lane-cards c.self.inside.mask c.args.suit)

pub returns-clause-real : goal.returns-clause-real
returns-clause-real c = rw (← c.self.view_is) (cards-real c.self.inside.mask)
