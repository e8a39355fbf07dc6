use Rattle.std.proofs.Common.{◌≤◌, ◌*◌}
use Rattle.dd_order.proofs.first_guess.points_of.Given as goal

-- each card so far counted no more than 4
abbrev pub invariant-loop-lower : goal.invariant-loop-lower
invariant-loop-lower l = record {
  ours : l.points.ours ≤ 4 * l.lower;
  theirs : l.points.theirs ≤ 4 * l.lower;
}
