use Rattle.dd_relative.proofs.TrickRanks.{trick-before}
use Rattle.dd_relative.proofs.placed_trick.PlacedTrick.ranks_before.Goals as goal

pub returns : goal.returns
returns c =
    trick-before c.self.inside.start.now c.args.self.now c.self.inside.trick c.self.inside.played c.index-trick-0.result c.index-trick-1.result c.index-trick-2.result c.args.card
    c.args.later.now c.before_trick.result c.start-start.ensures.relative c.self.invariant.1 c.self.invariant.0 c.self.invariant.2 c.self.view_is c.requires.turn c.requires.card
    c.before_trick.ensures
