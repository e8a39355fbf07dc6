use Rattle.dd_desk.proofs.Awaiting.{claim-ends}
use Rattle.dd_desk.proofs.recording.answer_claim.Goals as goal

pub returns-clause-ends : goal.returns-clause-ends
returns-clause-ends g c =
    let h = c.args.state.now.history in
    claim-ends h.limits h.book h.journal.items c.args.pass.now.number c.number-worker.result _ c.answer.result h.replayed c.requires.ready c.answer.ensures.reply c.answer.ensures.room
