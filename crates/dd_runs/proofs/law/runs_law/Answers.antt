use Rattle.dd_runs.proofs.Projected.{runs-law}
use Rattle.dd_runs.proofs.law.runs_law.Goals as goal

pub returns : goal.returns
returns c = runs-law c.world_law.ensures
