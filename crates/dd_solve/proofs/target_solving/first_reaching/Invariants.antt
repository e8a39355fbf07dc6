use Rattle.std.proofs.Common.{◌≡◌, ◌≤◌, length, take}
use Rattle.dd_solve.proofs.Reaching.{reached}
use Rattle.dd_solve.proofs.target_solving.first_reaching.Given as goal

-- Those of the classes so far that reach the target.
abbrev pub invariant-loop-class : goal.invariant-loop-class
invariant-loop-class g l = record {
  found : l.answer.items ≡ reached l.position l.target (take l.class-index l.classes);
  few : length l.answer.items ≤ l.class-index;
  most : length l.answer.items ≤ l.most;
  limit : g.M.Meter.limit l.meter ≡ g.M.Meter.limit l.fn.meter;
}
