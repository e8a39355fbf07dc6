use Rattle.dd_rank.proofs.FourLanes.{AreClosing}
use Rattle.dd_rank.proofs.lanes.OwnerPlanes.close_up.Given as goal

abbrev pub invariant-loop-rank : goal.invariant-loop-rank
invariant-loop-rank l = AreClosing l.odd l.far l.gone l.rank l.places
