use Rattle.std.proofs.Common.{◌∙◌, sym, ap}
use Rattle.dd_cards.specs.Places.{at_place}
use Rattle.dd_cards.proofs.Places.{at_place-real, at_place-place_of}
use Rattle.dd_cards.proofs.place.Place.card.Goals as goal

pub returns-clause-card : goal.returns-clause-card
returns-clause-card c = rw (← c.self.view_is) (sym (at_place-place_of _ c.at.ensures.rank) ∙ ap at_place c.at.ensures.place)

pub returns-clause-real : goal.returns-clause-real
returns-clause-real c = rw (← c.self.view_is) (at_place-real _ c.self.invariant)
