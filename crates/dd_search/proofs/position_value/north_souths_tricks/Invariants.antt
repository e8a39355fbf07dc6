use Rattle.std.proofs.Common.{◌≡◌, ◌+◌, ◌-◌, ◌≤◌}
use Rattle.dd_play.specs.Board.{tricks_left}
use Rattle.dd_search.specs.ClaimsBy.{IsWindow}
use Rattle.dd_search.proofs.position_value.north_souths_tricks.Given as goal

-- North and South take as many as they claim, and East and West as many as they do.
abbrev pub invariant-window : goal.invariant-window
invariant-window g l = record {
  window : IsWindow l.position l.ours l.theirs;
  within : l.ours.tricks + l.theirs.tricks ≤ tricks_left l.position;
  ticked : g.M.Meter.ticked l.fn.meter l.meter;
  limit : g.M.Meter.limit l.meter ≡ g.M.Meter.limit l.fn.meter;
}

abbrev pub decreases-window : goal.decreases-window
decreases-window g l = tricks_left l.position - (l.ours.tricks + l.theirs.tricks)
