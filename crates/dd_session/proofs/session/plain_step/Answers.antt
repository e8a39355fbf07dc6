use Rattle.std.proofs.Common.{None, refl}
use Rattle.dd_session.proofs.ByManner.{plain-follows}
use Rattle.dd_session.proofs.session.plain_step.Goals as goal

pub returns-in-Ok-clause-follows : goal.returns-in-Ok-clause-follows
returns-in-Ok-clause-follows c = plain-follows c.args.manner c.args.line.now c.in-Ok.asked None c.step_of.result c.requires refl c.in-Ok.ensures.ok (c.step_of.ensures.follows c.args.manner c.args.line.now)
