use Rattle.dd_session.proofs.ByManner.{explained-follows, explained-says}
use Rattle.dd_session.proofs.session.explained_step.Goals as goal

pub returns-in-Ok-clause-follows : goal.returns-in-Ok-clause-follows
returns-in-Ok-clause-follows c =
    explained-follows c.args.manner c.args.line.now c.in-Ok.want.asked _ c.step_of.result c.requires c.in-Ok.ensures.ok.1 c.in-Ok.ensures.ok.0 (c.step_of.ensures.follows c.args.manner c.args.line.now)

pub returns-in-Err-clause-follows : goal.returns-in-Err-clause-follows
returns-in-Err-clause-follows c = explained-says c.args.manner c.args.line.now c.in-Err.text c.requires c.in-Err.ensures.err
