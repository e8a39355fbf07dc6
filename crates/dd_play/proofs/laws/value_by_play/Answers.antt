use Rattle.dd_play.proofs.Values.{ns-legal}
use Rattle.dd_play.proofs.laws.value_by_play.Goals as goal

pub returns : goal.returns
returns c = ns-legal
