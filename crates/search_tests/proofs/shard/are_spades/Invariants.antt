use Rattle.std.proofs.Common.{◌≡◌, ◌++◌, take}
use Rattle.dd_play.specs.Deals.{spades}
use Rattle.search_tests.proofs.shard.are_spades.Given as goal

abbrev pub invariant-loop-rank : goal.invariant-loop-rank
invariant-loop-rank l = l.fn.hand ≡ spades (take l.rank-index l.ranks) ++ l.rest
