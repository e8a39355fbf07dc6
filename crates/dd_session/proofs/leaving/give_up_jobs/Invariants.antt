use Rattle.dd_session.proofs.GivenUp.{GoesOver}
use Rattle.dd_session.proofs.leaving.give_up_jobs.Given as goal

abbrev pub invariant-loop-place : goal.invariant-loop-place
invariant-loop-place g l = GoesOver g.J.Naming.limits l.fn.pass l.before l.refusals l.place l.pass l.refused
