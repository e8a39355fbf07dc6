use Rattle.dd_equal.proofs.Equal.{equal-score}
use Rattle.dd_equal.proofs.laws.equal_cards_score_alike.Goals as goal

pub returns : goal.returns
returns c = equal-score
