use Rattle.dd_cards.proofs.Places.{place_of-valid, at_place-place_of}
use Rattle.dd_cards.proofs.place.Place.of.Goals as goal

pub invariant_of-result : goal.invariant_of-result
invariant_of-result c = rw c.place.ensures.value (place_of-valid _ c.place.ensures.rank)

pub returns-clause-card : goal.returns-clause-card
returns-clause-card c = rw c.place.ensures.value (at_place-place_of _ c.place.ensures.rank)
