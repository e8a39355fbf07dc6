use Rattle.dd_pbn.proofs.Decided.{one-deal}
use Rattle.dd_pbn.proofs.laws.one_deal.Goals as goal

pub returns : goal.returns
returns c = one-deal
