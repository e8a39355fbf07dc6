use Rattle.std.proofs.lemmas.Result.{on_ok_weaker, on_err_weaker}
use Rattle.std.proofs.Common.{refl}
use Rattle.dd_file.proofs.Written.{WritesLast-wrote, WritesBegun-last, WritesBegun-stopped}
use Rattle.dd_file.proofs.engine.write_last.Goals as goal

pub returns-clause-ok : goal.returns-clause-ok
returns-clause-ok g c = on_ok_weaker c.write_text.result
    (λ wrote. WritesLast-wrote g.A.Analyst.gives g.A.Analyst.way _ _ _ _ _ _ c.args.window.now _ _ _ _ c.in-Some.ensures.ended c.games.ensures c.ended.ensures c.as_slice.ensures.value wrote) c.write_text.ensures.ok

pub returns-clause-err : goal.returns-clause-err
returns-clause-err g c = on_err_weaker c.write_text.result
    (λ wrote. WritesBegun-last g.A.Analyst.gives g.A.Analyst.way _ _ _ _ _ _ c.args.window.now _ _ _ _ c.in-Some.ensures.ended c.games.ensures c.ended.ensures c.as_slice.ensures.value wrote) c.write_text.ensures.err

pub returns-in_default-clause-err : goal.returns-in_default-clause-err
returns-in_default-clause-err g c = WritesBegun-stopped g.A.Analyst.gives g.A.Analyst.way _ c.args.filler.now _ _ _ _ _ refl c.in_default.ensures.stops
