use Rattle.dd_relative.proofs.Lefts.{lead-13}
use Rattle.dd_relative.proofs.relative_start.RelativeStart.tricks_left.Goals as goal

pub returns-clause-bound : goal.returns-clause-bound
returns-clause-bound c = lead-13 c.args.self.now c.leader.result c.len.result c.leader.ensures.relative c.leader.ensures.cards c.len.ensures
