use Rattle.dd_rank.proofs.Highest.{highest-coded}
use Rattle.dd_rank.proofs.lanes.OwnerPlanes.highest.Goals as goal

pub returns : goal.returns
returns c = highest-coded c.args.self.odd c.args.self.far
