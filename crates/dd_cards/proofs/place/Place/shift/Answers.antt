use Rattle.dd_cards.proofs.Places.{at_place-shift}
use Rattle.dd_cards.proofs.place.Place.shift.Goals as goal

pub returns-clause-value : goal.returns-clause-value
returns-clause-value c = rw (← c.self.view_is) (at_place-shift _ c.self.invariant)
