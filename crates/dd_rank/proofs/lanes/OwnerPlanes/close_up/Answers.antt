use Rattle.std.proofs.Common.{refl, arith}
use Rattle.dd_rank.proofs.FourLanes.{closing-start, ranks-step, both-end}
use Rattle.dd_rank.proofs.lanes.OwnerPlanes.close_up.Goals as goal

pub loop-rank-init : goal.loop-rank-init
loop-rank-init c = record { now_odd = c.args.odd; now_far = c.args.far; are = refl; closing = closing-start c.args.odd c.args.far c.args.gone (omega arith) (omega arith) c.requires.odd c.requires.far c.requires.apart }

pub loop-rank-preserved : goal.loop-rank-preserved
loop-rank-preserved c = ranks-step c.args.odd c.args.far c.args.gone c.loop-rank.rank _ c.loop-rank.places c.requires.odd c.requires.far c.requires.apart c.loop-rank-test.true refl c.loop-rank.invariant

pub returns : goal.returns
returns c = both-end c.args.odd c.args.far c.args.gone c.loop-rank.rank c.loop-rank.places c.requires.odd c.requires.far (omega arith) c.loop-rank.invariant
