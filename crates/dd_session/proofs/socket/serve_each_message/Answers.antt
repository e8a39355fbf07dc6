use Rattle.dd_session.proofs.Gaining.{served-reached}
use Rattle.dd_session.proofs.Leave.{messages-no-stop}
use Rattle.dd_session.proofs.socket.serve_each_message.Goals as goal

pub returns-clause-asked : goal.returns-clause-asked
returns-clause-asked g c = served-reached c.args.manner c.new-session.result _ _ (rw c.new-session.ensures c.manner_of.ensures.within) c.serve_messages.ensures

pub returns-clause-leave : goal.returns-clause-leave
returns-clause-leave g c = messages-no-stop c.args.manner _ _ (returns-clause-asked g c)
