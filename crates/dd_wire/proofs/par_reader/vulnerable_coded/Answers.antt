use Rattle.dd_wire.proofs.ParCodes.{vulnerable-read}
use Rattle.dd_wire.proofs.par_reader.vulnerable_coded.Goals as goal

pub returns : goal.returns
returns c = vulnerable-read c.args.code c.vulnerable_of.result c.vulnerable_of.ensures.valid c.vulnerable_of.ensures.value
