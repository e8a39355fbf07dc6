use Rattle.std.proofs.Common.{◌+◌, ◌≤◌, sym, subst}
use Rattle.dd_cards.specs.PlayingCard.{PlayingCard}
use Rattle.dd_cards.proofs.Places.{at_place-higher}
use Rattle.dd_cards.proofs.place.Place.higher_by.Goals as goal

pub invariant_of-result : goal.invariant_of-result
invariant_of-result c = (at_place-higher c.self.inside.at c.args.ranks c.self.invariant (subst (λ (d : PlayingCard). d.rank + c.args.ranks ≤ 14) (sym c.self.view_is) c.requires)).0

pub returns : goal.returns
returns c =
    rw (← c.self.view_is) (at_place-higher c.self.inside.at c.args.ranks c.self.invariant (subst (λ (d : PlayingCard). d.rank + c.args.ranks ≤ 14) (sym c.self.view_is) c.requires)).1
