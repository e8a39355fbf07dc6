use Rattle.dd_desk.proofs.Serves.{serves}
use Rattle.dd_desk.proofs.law.reserve_serves.Goals as goal

pub returns : goal.returns
returns c = serves
