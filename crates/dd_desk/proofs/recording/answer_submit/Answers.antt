use Rattle.dd_desk.proofs.Claiming.{may_claim}
use Rattle.dd_desk.proofs.recording.answer_submit.Goals as goal

-- nothing waited before the submit, so what is claimed is of the new job
pub returns-else-not-was_idle-clause-claimed : goal.returns-else-not-was_idle-clause-claimed
returns-else-not-was_idle-clause-claimed g c =
    may_claim g.J.Naming.limits c.args.worker.now c.claim_at_once-claim.new.pass c.args.state.now.history.book c.answer.new.state.history.book c.number-caller.result c.args.asked c.in-Ok.reply
    c.claim_at_once-claim.result c.if-not-was_idle.ensures.0 c.in-Ok.ensures.reply c.in-Ok.ensures.book c.claim_at_once-claim.ensures.claimed c.claim_at_once-claim.ensures.reply
