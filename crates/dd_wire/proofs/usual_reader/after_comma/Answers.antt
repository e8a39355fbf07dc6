use Rattle.dd_wire.proofs.UsualValues.{goes-on}
use Rattle.dd_wire.proofs.usual_reader.after_comma.Goals as goal

pub returns : goal.returns
returns c = goes-on c.args.text.now c.in_ok-after.field-0.now c.after_space.result.now c.in_ok-after.ensures c.after_space.ensures
