-- The entries of a cache.
use Rattle.std.specs.Prelude.{◌≤◌, List, map, Contains}
use Rattle.lru.specs.LruCache.{LruCache}
use Rattle.dd_rank.specs.Strings.{ShapeOf}
use Rattle.dd_limits.specs.declared.limits.TheConstants.{MOST_SHAPES}
use Rattle.dd_shard.specs.Entries.{Pair, Entry, Entries, IsEntry}

-- a shape with the pairs of its slot
abbrev pub entry_of : ShapeOf × List Pair → Entry
entry_of filed = record { shape = filed.0; pairs = filed.1 }

-- the entries of a cache, and how many there may be
abbrev pub entries_of : LruCache ShapeOf (List Pair) → Entries
entries_of cache = record { list = map entry_of cache.entries; limit = cache.cap }

-- what holds of the cache of a shard
pub record IsKept (cache : LruCache ShapeOf (List Pair)) : Type 0 where
  pub filed : (x : ShapeOf × List Pair) → Contains cache.entries x → IsEntry (entry_of x)
  pub least : 1 ≤ cache.cap
  pub most : cache.cap ≤ MOST_SHAPES
