use Rattle.std.proofs.Common.{refl, ap, arith}
use Rattle.dd_wire.specs.UsualLines.{number_in}
use Rattle.dd_wire.proofs.UsualValues.{deeper, spaced}
use Rattle.dd_wire.proofs.usual_reader.put_number.Goals as goal

pub returns : goal.returns
returns c = record { value = _; none = ap number_in c.in_ok-absent.ensures; some = refl; valued = spaced c.after_space.ensures (deeper (omega arith) c.in_ok-found.ensures) }
