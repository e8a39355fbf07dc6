use Rattle.std.proofs.Common.{◌++◌, ap, ◌∙◌}
use Rattle.dd_equal.proofs.Suits.{suit-classes, ranks-apart}
use Rattle.dd_equal.proofs.partition.push_suit.Goals as goal

pub push_classes-requires-clause-apart : goal.push_classes-requires-clause-apart
push_classes-requires-clause-apart c =
    ranks-apart c.args.position.now c.args.suit _ _ c.requires.board (record { of_mover = c.requires.own; of_others = c.other_ranks.ensures })

pub returns-clause-items : goal.returns-clause-items
returns-clause-items c =
    c.push_classes.ensures.items
    ∙ ap (λ made. c.args.classes.now.items ++ made) (suit-classes c.args.position.now c.args.suit _ _ c.requires.board (record { of_mover = c.requires.own; of_others = c.other_ranks.ensures }))
