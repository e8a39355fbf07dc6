use Rattle.dd_wire.proofs.UsualValues.{closes-is}
use Rattle.dd_wire.proofs.usual_reader.closed.Goals as goal

pub returns : goal.returns
returns c = closes-is c.args.text.now c.in_ok-after.field-0.now c.in_ok-after.ensures
