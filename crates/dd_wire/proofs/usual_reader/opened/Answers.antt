use Rattle.dd_wire.proofs.UsualValues.{opens-is}
use Rattle.dd_wire.proofs.usual_reader.opened.Goals as goal

pub returns : goal.returns
returns c = opens-is c.args.text.now c.in_ok-after.field-0.now c.after_space.result.now c.in_ok-after.ensures c.after_space.ensures
