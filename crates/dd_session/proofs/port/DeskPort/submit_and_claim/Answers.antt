use Rattle.std.proofs.Common.{rules, subst}
use Rattle.std.specs.Prelude.{Result}
use Rattle.dd_book.specs.declared.call.Call.TheVariants.{Submit as SubmitCall}
use Rattle.dd_book.specs.declared.call.Reply.{Reply}
use Rattle.dd_desk.specs.declared.fault.DeskFault.{DeskFault}
use Rattle.dd_desk.specs.Replies.{IsTold}
use Rattle.dd_wire.specs.declared.want.Want.TheVariants.{Submit}
use Rattle.dd_session.proofs.Telling.{Tells-made, keeps_told}
use Rattle.dd_session.proofs.port.DeskPort.submit_and_claim.Goals as goal

pub returns-in-Ok-clause-told : goal.returns-in-Ok-clause-told
returns-in-Ok-clause-told g c =
    let call = c.submit_and_claim-told in
    let before = c.self.inside.pass in
    rw (← c.self.view_is) (Tells-made before call.new.pass c.self.inside.before c.self.inside.refusals (Submit c.args.asked) c.in-Ok.reply (search rules)
    (subst (λ (r : Result Reply DeskFault). IsTold g.J.Naming.limits before (SubmitCall before.number c.args.asked) r call.new.pass) c.in-Ok.is call.ensures.told))

pub invariant_of-self : goal.invariant_of-self
invariant_of-self g c =
    let call = c.submit_and_claim-told in
    keeps_told g.J.Naming.limits c.self.inside.pass call.new.pass c.self.inside.before (Submit c.args.asked) call.result.0 (search rules) (search rules) call.ensures.told
