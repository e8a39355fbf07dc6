use Rattle.std.proofs.Common.{arith}
use Rattle.serde_json.specs.View.{members_view}
use Rattle.dd_wire.proofs.ExplainingWants.{asked-object, tells-long, tells-object-err, tells-unread}
use Rattle.dd_wire.proofs.explained_want.read_explained.Goals as goal

pub returns-then-line-gt-LONGEST_LINE-clause-err : goal.returns-then-line-gt-LONGEST_LINE-clause-err
returns-then-line-gt-LONGEST_LINE-clause-err c = tells-long c.args.allow_stop c.args.line.now c.told.result.bytes (omega arith) c.told.ensures.text

pub returns-in-Ok-clause-ok : goal.returns-in-Ok-clause-ok
returns-in-Ok-clause-ok c =
    asked-object c.args.allow_stop c.args.line.now (members_view c.in-Ok.object.entries) c.named_asked.result (omega arith) c.in-Ok.ensures.ok c.named_asked.ensures.ok

pub returns-in-Ok-clause-err : goal.returns-in-Ok-clause-err
returns-in-Ok-clause-err c =
    tells-object-err c.args.allow_stop c.args.line.now (members_view c.in-Ok.object.entries) c.named_asked.result (λ t. t.bytes) (omega arith) c.in-Ok.ensures.ok c.named_asked.ensures.err

pub returns-in-Err-clause-err : goal.returns-in-Err-clause-err
returns-in-Err-clause-err c = tells-unread c.args.allow_stop c.args.line.now c.unread_reply.result.bytes (omega arith) c.unread_reply.ensures.text
