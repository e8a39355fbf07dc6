use Rattle.std.proofs.Common.{arith}
use Rattle.dd_rank.proofs.Spread.{spread-tells, spread-small}
use Rattle.dd_rank.proofs.lanes.spread.Goals as goal

pub returns-clause-value : goal.returns-clause-value
returns-clause-value c = spread-tells c.args.bits

pub returns-clause-bound : goal.returns-clause-bound
returns-clause-bound c = (let e = spread-tells c.args.bits in let s = spread-small c.args.bits in omega (arith, e, s))
