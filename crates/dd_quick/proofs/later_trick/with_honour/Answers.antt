use Rattle.std.proofs.Common.{subst}
use Rattle.dd_quick.specs.Seen.{AreRanks}
use Rattle.dd_quick.proofs.Reached.{guard-more, guard-reached}
use Rattle.dd_quick.proofs.later_trick.with_honour.Goals as goal

pub returns-clause-left : goal.returns-clause-left
returns-clause-left c =
    let p = c.args.position.now in
    let u = c.args.suit in
    let ranks = c.ranks_at-ranks.result in
    let are = subst (λ x. AreRanks p x u ranks.own ranks.left ranks.partner ranks.right) c.first.ensures c.ranks_at-ranks.ensures in
    guard-more p 1 u c.with_highest-cards.result c.with_highest.result c.with_highest.ensures.more (guard-reached p 1 u c.left_ahead.result c.with_highest-cards.result c.args.led.left (c.left_ahead.ensures p u are) c.requires.1 c.with_highest-cards.ensures.most)

pub returns-clause-right : goal.returns-clause-right
returns-clause-right c =
    let p = c.args.position.now in
    let u = c.args.suit in
    let ranks = c.ranks_at-ranks.result in
    let are = subst (λ x. AreRanks p x u ranks.own ranks.left ranks.partner ranks.right) c.first.ensures c.ranks_at-ranks.ensures in
    guard-reached p 3 u c.right_ahead.result c.with_highest.result c.args.led.right (c.right_ahead.ensures p u are) c.requires.2 c.with_highest.ensures.most
