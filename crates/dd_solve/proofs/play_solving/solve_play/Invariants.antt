use Rattle.std.proofs.Common.{◌≡◌, ◌+◌, ◌-◌, ◌≤◌, length}
use Rattle.std.specs.Prelude.{map}
use Rattle.std.specs.List.{range_with_len}
use Rattle.dd_request.specs.Plays.{tricks_after}
use Rattle.dd_solve.proofs.play_solving.solve_play.Given as goal

-- The trace from here on.
abbrev pub invariant-cards : goal.invariant-cards
invariant-cards g l = record {
  trace : l.trace.items ≡ map (tricks_after l.request) (range_with_len l.count (length l.request.cards + 1 - l.count));
  tricks : l.tricks ≡ tricks_after l.request l.count;
  within : l.count ≤ length l.request.cards;
}

abbrev pub decreases-cards : goal.decreases-cards
decreases-cards g l = l.count
