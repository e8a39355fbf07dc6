use Rattle.std.specs.Prelude.{slice_get}
use Rattle.dd_session.proofs.GivenUp.{gives-nothing}
use Rattle.dd_session.proofs.leaving.give_up_at.Goals as goal

pub returns-in-None : goal.returns-in-None
returns-in-None g c = gives-nothing g.J.Naming.limits (slice_get c.args.pass.now.receipts c.args.place) c.args.pass.now c.args.refusals c.in-None.ensures
