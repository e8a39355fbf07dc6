use Rattle.dd_play.proofs.Boards.{ns-le}
use Rattle.dd_play.proofs.laws.value_within_tricks.Goals as goal

pub returns : goal.returns
returns c = ns-le
