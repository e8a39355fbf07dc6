use Rattle.dd_score.proofs.OneValue.{one_value}
use Rattle.dd_score.proofs.laws.an_auction_has_one_value.Goals as goal

pub returns : goal.returns
returns c = one_value
