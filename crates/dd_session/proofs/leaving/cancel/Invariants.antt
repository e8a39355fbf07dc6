use Rattle.std.proofs.Common.{◌≡◌}
use Rattle.dd_session.proofs.leaving.cancel.Given as goal

abbrev pub invariant-loop : goal.invariant-loop
invariant-loop g l = l.pass ≡ l.initial.pass
