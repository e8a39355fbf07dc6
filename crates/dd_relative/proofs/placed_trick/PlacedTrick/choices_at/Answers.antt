use Rattle.std.proofs.Common.{◌∙◌}
use Rattle.dd_relative.proofs.UnderWay.{follow-at}
use Rattle.dd_relative.proofs.placed_trick.PlacedTrick.choices_at.Goals as goal

pub returns : goal.returns
returns c =
    c.following.ensures
    ∙ follow-at c.self.inside.start.now c.args.self.now c.self.inside.trick c.hand_at-hand.result c.self.inside.played c.args.played c.index-trick-0.result c.start-start.ensures.relative c.self.invariant.1 c.self.invariant.0 c.self.view_is c.requires
    c.if-played-eq0.false c.hand_at-hand.ensures
