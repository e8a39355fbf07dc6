use Rattle.std.proofs.Common.{sym}
use Rattle.dd_cards.specs.PlaceLaws.{place_of-at_place}
use Rattle.dd_cards.proofs.Places.{at_place-real}
use Rattle.dd_cards.proofs.place.Place.number.Goals as goal

pub returns-clause-value : goal.returns-clause-value
returns-clause-value c = rw (← c.self.view_is) (sym (place_of-at_place _ c.self.invariant.0))

pub returns-clause-real : goal.returns-clause-real
returns-clause-real c = rw (← c.self.view_is) (at_place-real _ c.self.invariant)
