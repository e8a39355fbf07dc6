use Rattle.std.proofs.lemmas.Result.{on_ok_weaker, on_err_weaker}
use Rattle.dd_session.proofs.Gaining.{ServedAll-engine, ServedBeginning-engine, served-some}
use Rattle.dd_session.proofs.Leave.{lines-no-stop}
use Rattle.dd_session.proofs.serving.serve_each_line.Goals as goal

pub returns-clause-ok : goal.returns-clause-ok
returns-clause-ok g c = on_ok_weaker c.answer_lines.result (λ all. ServedAll-engine _ _ _ _ _ _ _ (rw (← c.new.ensures) all)) c.answer_lines.ensures.ok

pub returns-clause-err : goal.returns-clause-err
returns-clause-err g c = on_err_weaker c.answer_lines.result (λ some. ServedBeginning-engine _ _ _ _ _ _ _ (rw (← c.new.ensures) some)) c.answer_lines.ensures.err

pub returns-clause-asked : goal.returns-clause-asked
returns-clause-asked g c = served-some c.answer_lines.result _ _ _ _ _ _ _ (returns-clause-ok g c) (returns-clause-err g c)

pub returns-clause-leave : goal.returns-clause-leave
returns-clause-leave g c = lines-no-stop c.answer_lines.result _ _ _ _ _ _ _ (returns-clause-ok g c) (returns-clause-err g c)
