use Rattle.std.proofs.Common.{rules}
use Rattle.dd_wire.specs.declared.want.Want.TheVariants.{Fetch}
use Rattle.dd_session.proofs.Telling.{Tells-made, keeps_told}
use Rattle.dd_session.proofs.port.DeskPortBookPort.fetch_within.Goals as goal

pub returns-in-Ok-clause-told : goal.returns-in-Ok-clause-told
returns-in-Ok-clause-told g c =
    rw (← c.self.view_is) (Tells-made c.self.inside.pass c.fetch_within.new.pass c.self.inside.before c.self.inside.refusals (Fetch c.args.job) c.in-Ok.reply (search rules) c.in-Ok.ensures.told)

pub invariant_of-self : goal.invariant_of-self
invariant_of-self g c = keeps_told g.J.Naming.limits c.self.inside.pass c.fetch_within.new.pass c.self.inside.before (Fetch c.args.job) c.fetch_within.result (search rules) (search rules) c.fetch_within.ensures.told
