use Rattle.dd_cards.proofs.Places.{one-lane}
use Rattle.dd_cards.proofs.place.Place.follows.Goals as goal

pub returns : goal.returns
returns c = rw (← c.self.view_is, ← c.other.view_is) (one-lane _ _ c.self.invariant c.other.invariant)
