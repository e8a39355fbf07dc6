-- Where a table keeps what it learns of a position at the start of a trick.
use Rattle.std.specs.Prelude.{ℕ, ◌/◌, ◌%◌, ◌^◌}
use Rattle.dd_play.specs.Board.{Board}
use Rattle.dd_rank.specs.Strings.{ShapeOf, strings_of, hash_of, hash_in}

-- of so many shards the one for positions of this shape
unfoldable pub shard_of : ℕ → ShapeOf → ℕ
shard_of count shape = hash_of shape / 2 ^ 32 % count

-- of the cells of the front the one for a position: one for all positions with the same owners
unfoldable pub slot_of : Board → ℕ
slot_of p = hash_in (strings_of p) / 2 ^ 32 % 4096
