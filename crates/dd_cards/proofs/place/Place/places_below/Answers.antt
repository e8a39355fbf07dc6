use Rattle.dd_cards.proofs.Below.{below-tells}
use Rattle.dd_cards.proofs.place.Place.places_below.Goals as goal

pub returns-clause-value : goal.returns-clause-value
returns-clause-value c = rw c.number.ensures.value (below-tells c.args.self c.number.ensures.real)
