use Rattle.std.proofs.Common.{ap}
use Rattle.dd_server.specs.declared.terms.Terms.{Terms}
use Rattle.dd_server.proofs.ShortJobs.{has_told, round_done}
use Rattle.dd_server.proofs.short_jobs.work_on.Goals as goal

pub work_on_claimed-goes_on-requires : goal.work_on_claimed-goes_on-requires
work_on_claimed-goes_on-requires g c = has_told g.J.Naming.limits g.J.RunNaming.terms.budget c.args.claimed c.args.pass c.requires

pub invariant_of-result : goal.invariant_of-result
invariant_of-result g c =
    round_done g.J.Naming.limits g.J.RunNaming.terms.budget c.args.state.now.terms.budget c.args.claimed c.args.pass c.work_on_claimed-goes_on.new.pass
    (ap (λ (t : Terms). t.budget) c.args.state.now.asked) c.requires (c.work_on_claimed-goes_on.ensures.goes c.if-goes_on.true)
