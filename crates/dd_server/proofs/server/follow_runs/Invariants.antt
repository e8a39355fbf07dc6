use Rattle.std.proofs.Common.{IsTrue}
use Rattle.dd_server.specs.Runs.{TellsEach}
use Rattle.dd_server.proofs.server.follow_runs.Given as goal

abbrev pub invariant-loop : goal.invariant-loop
invariant-loop g l = TellsEach g.L.RunLimits.limits g.L.RunLimits.terms g.T.TellsRuns.way (g.T.TellsRuns.state l.fn.teller) (g.T.TellsRuns.state l.teller) (IsTrue l.some)
