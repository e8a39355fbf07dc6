use Rattle.dd_file.proofs.Staying.{PassesSome-quiet, PassesSome-then}
use Rattle.std.proofs.Common.{refl}
use Rattle.std.proofs.lemmas.Result.{err_from_is_err_and}
use Rattle.dd_file.proofs.Stopped.{Stops-none, quiet-then-stops}
use Rattle.dd_file.proofs.engine.pass_some.Goals as goal

pub returns-then-count-most-clause-passes : goal.returns-then-count-most-clause-passes
returns-then-count-most-clause-passes g c =
    PassesSome-quiet g.A.Analyst.gives g.A.Analyst.way c.args.is_all _ _ _ c.args.rest.now c.args.most _ _ _ c.requires.some c.requires.within c.in_ok-count.ensures.passes c.in_ok-count.ensures.counts c.if-count-most.true

pub returns-clause-passes : goal.returns-clause-passes
returns-clause-passes g c =
    PassesSome-then g.A.Analyst.gives g.A.Analyst.way c.args.is_all _ _ _ _ _ c.args.rest.now c.args.most _ _ _ _ _ c.requires.within c.in_ok-count.ensures.passes c.in_ok-count.ensures.counts c.if-count-most.false
    c.in_ok-more.ensures.passes

pub returns-in_err-count-clause-stops : goal.returns-in_err-count-clause-stops
returns-in_err-count-clause-stops g c =
    let p = err_from_is_err_and c.from_residual.result c.from_residual.ensures.1 in
    rw p.1 (Stops-none g.A.Analyst.gives g.A.Analyst.way c.args.is_all c.args.filler.now _ _ c.args.rest.now refl)

pub returns-in_err-more-clause-stops : goal.returns-in_err-more-clause-stops
returns-in_err-more-clause-stops g c =
    let p = err_from_is_err_and c.from_residual-in_err-more.result c.from_residual-in_err-more.ensures.1 in
    rw p.1 (quiet-then-stops g.A.Analyst.gives g.A.Analyst.way c.args.is_all c.args.filler.now c.pass_quiet.new.self _ _ c.args.rest.now c.args.most _ _ _ c.requires.within c.in_ok-count.ensures.passes c.in_ok-count.ensures.counts
    c.if-count-most.false c.in_err-more.ensures.stops)
