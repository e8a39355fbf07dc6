use Rattle.dd_session.proofs.late_port.LatePortBookPort.leave.Goals as goal

pub returns-clause-leaves : goal.returns-clause-leaves
returns-clause-leaves g c = rw (← c.self.view_is) (c.leave_at.ensures.leaves c.self.inside.refused)
