use Rattle.std.proofs.lemmas.Result.{on_ok_weaker, on_err_weaker}
use Rattle.dd_tool.proofs.Solving.{ToldAll-engine, ToldBeginning-engine, some-reply}
use Rattle.dd_tool.proofs.workers.tell_lines_ahead.Goals as goal

pub returns-clause-ok : goal.returns-clause-ok
returns-clause-ok g c = on_ok_weaker c.answer_lines.result (λ all. ToldAll-engine _ _ _ _ _ _ _ all) c.answer_lines.ensures.ok

pub returns-clause-err : goal.returns-clause-err
returns-clause-err g c = on_err_weaker c.answer_lines.result (λ some. ToldBeginning-engine _ (some-reply c.args.explain c.args.budget) _ _ _ _ _ _ some) c.answer_lines.ensures.err
