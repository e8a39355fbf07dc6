use Rattle.std.proofs.Common.{sym, ap, ◌∙◌}
use Rattle.dd_rank.specs.Depths.{FourDepths, depth_in}
use Rattle.dd_rank.specs.DepthMasks.{depths_in}
use Rattle.dd_rank.specs.FirstOwners.{top_places}
use Rattle.dd_rank.specs.Lanes.{lane}
use Rattle.dd_rank.proofs.DepthLanes.{lane-tops}
use Rattle.dd_rank.proofs.depths.Depths.tops.Goals as goal

pub returns-clause-tops : goal.returns-clause-tops
returns-clause-tops c = λ u.
    ap (λ n. lane n u) (sym c.self.invariant.highest) ∙ lane-tops (depths_in c.self.inside.tops) u ∙ ap (λ (d : FourDepths). top_places (depth_in d u)) c.self.view_is
