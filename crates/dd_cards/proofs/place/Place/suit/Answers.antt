use Rattle.dd_cards.proofs.Places.{at_place-suit}
use Rattle.dd_cards.proofs.place.Place.suit.Goals as goal

pub returns : goal.returns
returns c = rw (← c.self.view_is) (at_place-suit _ _ c.self.invariant c.of_lane.ensures)
