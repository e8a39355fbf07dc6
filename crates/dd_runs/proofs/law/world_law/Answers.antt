use Rattle.dd_runs.proofs.Runs.{law}
use Rattle.dd_runs.proofs.law.world_law.Goals as goal

pub returns : goal.returns
returns c = law c.alike_positions.ensures.turned
