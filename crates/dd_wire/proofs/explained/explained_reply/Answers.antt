use Rattle.std.proofs.Common.{arith}
use Rattle.serde_json.specs.View.{members_view}
use Rattle.dd_wire.proofs.Explaining.{explained-long, explained-object, explained-unread}
use Rattle.dd_wire.proofs.explained.explained_reply.Goals as goal

pub returns-then-line-gt-LONGEST_LINE-clause-text : goal.returns-then-line-gt-LONGEST_LINE-clause-text
returns-then-line-gt-LONGEST_LINE-clause-text g c = explained-long (g.F.Finder.gave_up c.args.finder.now) c.args.line.now c.told.result.bytes (omega arith) c.told.ensures.text

pub returns-in-Ok-clause-text : goal.returns-in-Ok-clause-text
returns-in-Ok-clause-text g c =
    explained-object (g.F.Finder.gave_up c.args.finder.now) c.args.line.now c.object_reply.result.bytes (members_view c.in-Ok.object.entries) (omega arith) c.in-Ok.ensures.ok c.object_reply.ensures.text

pub returns-in-Err-clause-text : goal.returns-in-Err-clause-text
returns-in-Err-clause-text g c = explained-unread (g.F.Finder.gave_up c.args.finder.now) c.args.line.now c.unread_reply.result.bytes (omega arith) c.unread_reply.ensures.text
