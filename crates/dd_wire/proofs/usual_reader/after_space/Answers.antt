use Rattle.dd_wire.proofs.UsualValues.{space-passed}
use Rattle.dd_wire.proofs.usual_reader.after_space.Goals as goal

pub returns-in-Some : goal.returns-in-Some
returns-in-Some c = space-passed c.args.text.now c.in-Some.rest.now c.in-Some.ensures
