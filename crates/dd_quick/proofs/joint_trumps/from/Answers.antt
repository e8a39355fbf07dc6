use Rattle.std.proofs.Common.{ap, ◌∙◌, arith, length}
use Rattle.dd_quick.proofs.TrumpRanks.{from-below}
use Rattle.dd_quick.proofs.joint_trumps.from.Goals as goal

pub overflow_sub-result : goal.overflow_sub-result
overflow_sub-result c = (let all = from-below c.args.rank c.args.ranks in let a = c.len.ensures.len in let b = c.len-2.ensures.len ∙ ap length c.below.ensures in omega (arith, all, a, b))

pub returns-clause-from : goal.returns-clause-from
returns-clause-from c = (let all = from-below c.args.rank c.args.ranks in let a = c.len.ensures.len in let b = c.len-2.ensures.len ∙ ap length c.below.ensures in omega (arith, all, a, b))
