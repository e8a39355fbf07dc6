use Rattle.dd_shard.proofs.Kept.{kept-entries}
use Rattle.dd_shard.proofs.shard.Shard.len.Goals as goal

pub returns-clause-entries : goal.returns-clause-entries
returns-clause-entries c = rw (← c.self.view_is) (kept-entries c.self.inside.cache c.self.invariant c.len.ensures.valid.0 c.len.ensures.valid.1)
