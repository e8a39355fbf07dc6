use Rattle.dd_order.proofs.Choices.{rank-card}
use Rattle.dd_order.proofs.follow.Following.best.Goals as goal

pub returns : goal.returns
returns c = rank-card c.args.self.now.led c.holding.result c.args.untried c.in_ok-rank.rank c.holding.ensures.ranks c.in_ok-rank.ensures
