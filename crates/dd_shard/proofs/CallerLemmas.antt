-- What the crates above may cite of these proofs: they import nothing else of them.

-- what stands at a place stands in the list
pub use Rattle.dd_shard.proofs.Lists.{Contains-at}
