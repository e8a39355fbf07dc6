use Rattle.dd_session.proofs.GivenUp.{gives-one, refuses-one}
use Rattle.dd_session.proofs.leaving.give_up.Goals as goal

pub returns-in-Ok : goal.returns-in-Ok
returns-in-Ok g c = gives-one c.args.pass.now c.cancel.new.pass c.args.job c.args.refusals c.in-Ok.field-0 c.in-Ok.ensures

pub returns-in-Err : goal.returns-in-Err
returns-in-Err g c =
    refuses-one c.args.pass.now c.cancel.new.pass c.args.job c.args.refusals c.one_more.result c.in-Err.field-0 c.in-Err.ensures c.one_more.ensures
