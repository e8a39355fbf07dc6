use Rattle.std.proofs.Common.{drop, Contains}
use Rattle.dd_rank.specs.Cover.{IsSameCover}
use Rattle.dd_shard.specs.Entries.{Pair, cover_of}
use Rattle.dd_shard.specs.Slots.{known_pairs}
use Rattle.dd_shard.proofs.slot.place_of.Given as goal

abbrev pub invariant-loop-place : goal.invariant-loop-place
invariant-loop-place l = (y : Pair) → Contains (known_pairs (drop l.place l.pairs)) y → ¬ IsSameCover (cover_of y) l.cover
