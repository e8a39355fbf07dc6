use Rattle.std.proofs.Common.{ap, sym, ◌∙◌, subst}
use mathlib.Core.Path.{ap₂}
use Rattle.std.specs.Prelude.{◌||◌}
use Rattle.dd_cards.specs.declared.seat.Seat.TheVariants.{North, East, South, West}
use Rattle.dd_cards.specs.Cards.{has_card}
use Rattle.dd_cards.specs.Hands.{IsSet}
use Rattle.dd_play.proofs.InPlay.{both-set, both-has}
use Rattle.dd_play.proofs.position.in_hands.Goals as goal

pub returns : goal.returns
returns c = λ d.
    both-has _ _ _ c.union.ensures.cards (both-set _ _ _ c.union-north_east.ensures.cards) (both-set _ _ _ c.union-south_west.ensures.cards) d
    ∙ ap₂ (λ x y. x || y)
    (both-has _ _ _ c.union-north_east.ensures.cards (subst IsSet (sym c.hand.ensures.hand) (c.hand.ensures.hands.sets North)) (subst IsSet (sym c.hand-2.ensures.hand) (c.hand.ensures.hands.sets East)) d
    ∙ ap₂ (λ x y. x || y) (ap (λ xs. has_card xs d) c.hand.ensures.hand) (ap (λ xs. has_card xs d) c.hand-2.ensures.hand))
    (both-has _ _ _ c.union-south_west.ensures.cards (subst IsSet (sym c.hand-3.ensures.hand) (c.hand.ensures.hands.sets South)) (subst IsSet (sym c.hand-4.ensures.hand) (c.hand.ensures.hands.sets West)) d
    ∙ ap₂ (λ x y. x || y) (ap (λ xs. has_card xs d) c.hand-3.ensures.hand) (ap (λ xs. has_card xs d) c.hand-4.ensures.hand))
