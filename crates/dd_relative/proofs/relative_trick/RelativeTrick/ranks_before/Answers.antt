use Rattle.std.proofs.Common.{subst, List}
use Rattle.dd_cards.specs.PlayingCard.{PlayingCard}
use Rattle.dd_relative.proofs.Opened.{Opens}
use Rattle.dd_relative.proofs.TrickRanks.{four-same, trick-before}
use Rattle.dd_relative.proofs.relative_trick.RelativeTrick.ranks_before.Goals as goal

pub returns : goal.returns
returns c =
    trick-before c.self.inside.start c.args.self.now c.self.inside.trick c.self.inside.played c.index-self-0.result c.index-self-1.result c.index-self-2.result c.args.card
    c.args.later.now c.before_trick.result c.leader-start.ensures.relative c.self.invariant.1 c.self.invariant.0 c.self.invariant.2 c.self.view_is c.requires.turn c.requires.card
    (subst (λ (gaps : List PlayingCard). Opens gaps c.args.later.now c.before_trick.result)
    (four-same c.of.result c.of-2.result c.of-3.result c.of-4.result _ _ _ c.args.card c.of.ensures.card c.of-2.ensures.card c.of-3.ensures.card c.of-4.ensures.card) c.before_trick.ensures)
