use Rattle.std.proofs.Common.{◌∙◌, ap, subst}
use Rattle.serde_json.specs.View.{members_view}
use Rattle.dd_wire.specs.Explained.{MeansBare}
use Rattle.dd_wire.specs.FaultWords.{fault_told}
use Rattle.dd_wire.proofs.Explaining.{bare-answered, bare-faulty}
use Rattle.dd_wire.proofs.explained.bare_reply.Goals as goal

pub returns-in-Ok-clause-text : goal.returns-in-Ok-clause-text
returns-in-Ok-clause-text g c =
    bare-answered (g.F.Finder.gave_up c.args.finder.now) (members_view c.args.object.now.entries) c.in-Ok.asked c.asked_reply.result.bytes
    (subst (MeansBare (members_view c.args.object.now.entries)) c.in-Ok.is c.bare_asked.ensures) c.asked_reply.ensures.text

pub returns-in-Err-clause-text : goal.returns-in-Err-clause-text
returns-in-Err-clause-text g c =
    bare-faulty (g.F.Finder.gave_up c.args.finder.now) (members_view c.args.object.now.entries) c.in-Err.fault c.told.result.bytes
    (subst (MeansBare (members_view c.args.object.now.entries)) c.in-Err.is c.bare_asked.ensures) (c.told.ensures.text ∙ ap (fault_told c.in-Err.fault) c.field_of.ensures.field)
