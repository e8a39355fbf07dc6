use Rattle.dd_play.proofs.Strengths.{winning-strongest}
use Rattle.dd_play.proofs.laws.winner_by_strength.Goals as goal

pub returns : goal.returns
returns c = winning-strongest
