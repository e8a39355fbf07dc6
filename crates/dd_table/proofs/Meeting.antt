-- Positions that may tell of each other have one place.
use Rattle.std.proofs.Common.{◌≡◌, ap}
use Rattle.std.specs.Prelude.{◌/◌, ◌%◌, ◌^◌, ℕ}
use Rattle.dd_play.specs.Board.{Board}
use Rattle.dd_rank.specs.Strings.{Strings, strings_of, shape_of, shape_in, hash_in}
use Rattle.dd_table.specs.Places.{shard_of, slot_of}

-- positions with the same strings have one slot
pub slot-same : (p q : Board) → strings_of q ≡ strings_of p → slot_of q ≡ slot_of p
unfolding slot_of
slot-same p q same = ap (λ (s : Strings). hash_in s / 2 ^ 32 % 4096) same

-- .. and one shard
pub shard-same : (count : ℕ) (p q : Board) → strings_of q ≡ strings_of p → shard_of count (shape_of q) ≡ shard_of count (shape_of p)
shard-same count p q same = ap (λ (s : Strings). shard_of count (shape_in s)) same
