use Rattle.std.proofs.lemmas.Result.{err_from_is_err_and}
use Rattle.dd_file.proofs.ShortTags.{PassesSome-byte, PassesSome-tag}
use Rattle.dd_file.proofs.Stopped.{Stops-front, tag-then-stops}
use Rattle.dd_file.proofs.engine.pass_next.Goals as goal

pub returns-then-count-gt0-clause-passes : goal.returns-then-count-gt0-clause-passes
returns-then-count-gt0-clause-passes g c = PassesSome-tag g.A.Analyst.gives g.A.Analyst.way c.args.is_all _ _ _ _ c.args.rest.now c.args.most _ _ _ c.requires.within c.in_ok-count.ensures.passes c.if-count-gt0.true

pub returns-clause-passes : goal.returns-clause-passes
returns-clause-passes g c =
    PassesSome-byte g.A.Analyst.gives g.A.Analyst.way c.args.is_all _ _ _ _ _ _ c.args.rest.now c.args.most _ _ _ _ c.requires.some c.requires.within c.in_ok-count.ensures.passes c.if-count-gt0.false
    c.in_ok-pass_first.ensures.passes

pub returns-in_err-count-clause-stops : goal.returns-in_err-count-clause-stops
returns-in_err-count-clause-stops g c =
    let p = err_from_is_err_and c.from_residual.result c.from_residual.ensures.1 in
    rw p.1 (Stops-front g.A.Analyst.gives g.A.Analyst.way c.args.is_all c.args.filler.now _ _ c.args.rest.now c.args.most c.in_err-count.ensures.stops)

pub returns-in_err-pass_first-clause-stops : goal.returns-in_err-pass_first-clause-stops
returns-in_err-pass_first-clause-stops g c =
    let p = err_from_is_err_and c.from_residual-in_err-pass_first.result c.from_residual-in_err-pass_first.ensures.1 in
    rw p.1 (tag-then-stops g.A.Analyst.gives g.A.Analyst.way c.args.is_all c.args.filler.now c.pass_tag.new.self _ _ _ c.args.rest.now c.args.most _ _ _ c.in_ok-count.ensures.passes c.if-count-gt0.false c.in_err-pass_first.ensures.stops)
