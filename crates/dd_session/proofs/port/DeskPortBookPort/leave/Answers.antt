use Rattle.std.proofs.Common.{rules}
use Rattle.dd_session.proofs.GivenUp.{Leaves-desk, keeps_given_up}
use Rattle.dd_session.proofs.port.DeskPortBookPort.leave.Goals as goal

pub returns-clause-leaves : goal.returns-clause-leaves
returns-clause-leaves g c =
    rw (← c.self.view_is) (Leaves-desk c.self.inside.pass c.give_up_jobs-self-inside.new.pass c.self.inside.before c.self.inside.refusals c.give_up_jobs-self-inside.result (search rules)
    c.give_up_jobs-self-inside.ensures)

pub invariant_of-self : goal.invariant_of-self
invariant_of-self g c =
    keeps_given_up c.self.inside.pass c.give_up_jobs-self-inside.new.pass c.self.inside.before c.self.inside.refusals c.give_up_jobs-self-inside.result _ (search rules) (search rules)
    c.give_up_jobs-self-inside.ensures
