use Rattle.std.proofs.Common.{arith}
use Rattle.dd_rank.proofs.TopPlaces.{tops-coded}
use Rattle.dd_rank.proofs.depths.suit_tops.Goals as goal

pub returns-clause-value : goal.returns-clause-value
returns-clause-value c = tops-coded c.args.depth (let h = c.requires in omega (arith, h))
