use Rattle.std.proofs.Common.{◌≡◌}
use Rattle.dd_work.proofs.retry.claim.Given as goal

abbrev pub invariant-loop : goal.invariant-loop
invariant-loop g l = l.pass ≡ l.initial.pass
