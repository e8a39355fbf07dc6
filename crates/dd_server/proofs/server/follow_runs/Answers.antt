use Rattle.dd_server.proofs.Growing.{one-more}
use Rattle.dd_server.proofs.server.follow_runs.Goals as goal

pub loop-preserved : goal.loop-preserved
loop-preserved g c = one-more _ _ _ _ _ _ _ _ c.loop.invariant c.tell_to.ensures
