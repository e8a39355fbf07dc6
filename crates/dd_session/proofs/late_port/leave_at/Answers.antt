use Rattle.std.proofs.Common.{◌≡◌, ℕ, [], Some, None, refl}
use Rattle.std.specs.Prelude.{Option}
use Rattle.dd_book.specs.Limits.{LimitsOf}
use Rattle.dd_session.specs.Leaving.{Leaves, SawBy}
use Rattle.dd_session.specs.Ports.{DeskPortOf, port_of, refusals_by, told_by}
use Rattle.dd_session.proofs.late_port.leave_at.Goals as goal

-- who has no pass has no job to give up
leaves-none : (limits : LimitsOf) (port : Option DeskPortOf) (refused : ℕ) → port ≡ None
    → Leaves (SawBy limits port) (port_of (told_by port) (refusals_by refused port)) (port_of (told_by port) (refusals_by refused port))
leaves-none limits None refused none = ([], 0, (refl, refl), refl)
leaves-none limits (Some p) refused none = cc

pub returns-in-None-clause-leaves : goal.returns-in-None-clause-leaves
returns-in-None-clause-leaves g c = λ refused. leaves-none g.J.Naming.limits c.args.port.now refused c.in-None.is
