use Rattle.std.proofs.lemmas.Result.{err_from_is_err_and}
use Rattle.dd_file.proofs.Written.{WritesBegun-front, WritesBegun-stopped, WritesBegun-whole, at-error, front-of-window}
use Rattle.dd_file.proofs.engine.write_front.Goals as goal

pub returns-in_default-clause-err : goal.returns-in_default-clause-err
returns-in_default-clause-err g c = WritesBegun-stopped g.A.Analyst.gives g.A.Analyst.way _ c.args.filler.now _ _ _ _ _ c.as_slice.ensures.value c.in_default.ensures.stops

pub returns-in_err-write_text-clause-err : goal.returns-in_err-write_text-clause-err
returns-in_err-write_text-clause-err g c =
    let p = err_from_is_err_and c.from_residual.result c.from_residual.ensures.1 in
    rw p.1 (WritesBegun-front g.A.Analyst.gives g.A.Analyst.way _ _ _ _ _ _ _ _ _ _ (front-of-window g.A.Analyst.gives g.A.Analyst.way _ _ _ _ _ _ _ _ c.as_slice.ensures.value c.in-Some.ensures.passes) c.as_slice-2.ensures.value c.in_err-write_text.ensures.err)

pub returns-clause-err : goal.returns-clause-err
returns-clause-err g c =
    at-error c.drop_front.result (WritesBegun-whole g.A.Analyst.gives g.A.Analyst.way _ _ _ _ _ _ _ _ _ _ (front-of-window g.A.Analyst.gives g.A.Analyst.way _ _ _ _ _ _ _ _ c.as_slice.ensures.value c.in-Some.ensures.passes) c.as_slice-2.ensures.value c.in_ok-write_text.ensures.ok)
