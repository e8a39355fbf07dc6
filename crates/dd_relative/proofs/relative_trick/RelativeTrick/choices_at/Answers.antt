use Rattle.std.proofs.Common.{ap, ◌∙◌}
use Rattle.std.specs.Prelude.{filter}
use Rattle.dd_cards.specs.PlayingCard.{PlayingCard}
use Rattle.dd_cards.specs.Cards.{is_of}
use Rattle.dd_play.specs.Tricks.{or_else}
use Rattle.dd_relative.proofs.UnderWay.{follow-at}
use Rattle.dd_relative.proofs.relative_trick.RelativeTrick.choices_at.Goals as goal

pub returns : goal.returns
returns c =
    c.following.ensures
    ∙ ap (λ (d : PlayingCard). or_else (filter (is_of d.suit) c.hand_at-hand.result) c.hand_at-hand.result) c.led.view_is
    ∙ follow-at c.self.inside.start c.args.self.now c.self.inside.trick c.hand_at-hand.result c.self.inside.played c.args.played c.index-self-0.result c.leader-start.ensures.relative c.self.invariant.1 c.self.invariant.0 c.self.view_is c.requires
    c.if-played-eq0.false c.hand_at-hand.ensures
