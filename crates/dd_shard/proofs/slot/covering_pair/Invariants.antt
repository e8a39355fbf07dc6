use Rattle.std.proofs.Common.{◌≡◌, [], drop}
use Rattle.dd_play.specs.Board.{Board, IsBoard}
use Rattle.dd_rank.specs.Strings.{strings_of}
use Rattle.dd_shard.specs.Entries.{NoneCovers}
use Rattle.dd_shard.specs.Slots.{known_pairs}
use Rattle.dd_shard.proofs.slot.covering_pair.Given as goal

abbrev pub invariant-loop-place : goal.invariant-loop-place
invariant-loop-place l = (q : Board) → IsBoard q → q.trick ≡ [] → l.strings ≡ strings_of q → NoneCovers q (known_pairs (drop l.place l.pairs))
