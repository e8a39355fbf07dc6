use Rattle.std.proofs.Common.{ap, ◌∙◌}
use Rattle.dd_cards.specs.PlayingCard.{PlayingCard}
use Rattle.dd_play.proofs.Strengths.{winner-strongest}
use Rattle.dd_play.proofs.trick_winner.winner_at.Goals as goal

pub returns : goal.returns
returns c =
    c.seat_after.ensures
    ∙ winner-strongest c.args.strain c.args.first c.args.trick.now _ _ _ _ c.a.inside.suit c.strongest_place-place.result c.type_inv.trick (ap (λ (card : PlayingCard). card.suit) c.a.view_is)
    c.strength.ensures.rank c.strength-2.ensures.rank c.strength-3.ensures.rank c.strength-4.ensures.rank
    (rw (← c.strength.ensures.value, ← c.strength-2.ensures.value, ← c.strength-3.ensures.value, ← c.strength-4.ensures.value) c.strongest_place-place.ensures.value)
