use Rattle.dd_pbn.proofs.Decided.{one-tag-deal}
use Rattle.dd_pbn.proofs.laws.one_deal_of_a_tag.Goals as goal

pub returns : goal.returns
returns c = one-tag-deal
