use Rattle.std.proofs.Common.{◌≡◌, ◌-◌, ◌≤◌}
use Rattle.dd_cards.specs.Sides.{side_of}
use Rattle.dd_play.specs.Board.{mover, tricks_left}
use Rattle.dd_play.specs.Won.{won}
use Rattle.dd_search.proofs.known_tricks.value_at_least.Given as goal

-- The side takes as many as are known.
abbrev pub invariant-tricks : goal.invariant-tricks
invariant-tricks g l = record {
  known : l.tricks ≤ won (side_of (mover l.position)) l.position;
  limit : g.M.Meter.limit l.meter ≡ g.M.Meter.limit l.fn.meter;
}

abbrev pub decreases-tricks : goal.decreases-tricks
decreases-tricks g l = tricks_left l.position - l.tricks
