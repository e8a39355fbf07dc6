use Rattle.dd_wire.proofs.ParCodes.{seat-read}
use Rattle.dd_wire.proofs.par_reader.seat_coded.Goals as goal

pub returns : goal.returns
returns c = seat-read c.args.code c.seat_of.result c.seat_of.ensures.valid c.seat_of.ensures.value
