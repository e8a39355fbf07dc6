use Rattle.std.proofs.Common.{arith}
use Rattle.dd_score.proofs.HeightLemmas.{level-found, level-on, level-none}
use Rattle.dd_score.proofs.highest_bettering.highest_bettering.Goals as goal

pub returns-then-found-gt0 : goal.returns-then-found-gt0
returns-then-found-gt0 c =
    level-found c.args.worths.now.tricks c.args.worths.now.vulnerable c.args.sought.order c.args.sought.score c.args.side c.bettering_in_level-found.result _ _
    c.bettering_in_level-found.ensures c.if-found-gt0.true (omega arith) c.loop-above.invariant

pub loop-above-preserved : goal.loop-above-preserved
loop-above-preserved c =
    level-on c.args.worths.now.tricks c.args.worths.now.vulnerable c.args.sought.order c.args.sought.score c.args.side c.bettering_in_level-found.result _ _ _
    c.bettering_in_level-found.ensures (omega arith) (omega arith) (omega arith) c.loop-above.invariant

pub returns : goal.returns
returns c =
    level-none c.args.worths.now.tricks c.args.worths.now.vulnerable c.args.sought.order c.args.sought.score c.args.side _ _ (omega arith) c.loop-above.invariant
