use Rattle.std.proofs.Common.{ap, ◌∙◌}
use Rattle.dd_cards.specs.Hands.{hand_of}
use Rattle.dd_equal.proofs.HeadCards.{others-in-play}
use Rattle.dd_equal.proofs.highest.others_at.Goals as goal

pub returns : goal.returns
returns c =
    others-in-play c.args.position.now c.in_play.result c.hand-own.result c.difference.result c.mover_at.ensures.board c.in_play.ensures.cards
    (c.hand-own.ensures.hand ∙ ap (λ hands. hand_of hands c.mover_at.result) c.hands.ensures.hands ∙ ap (λ seat. hand_of c.args.position.now.hands seat) c.mover_at.ensures.seat)
    c.difference.ensures
