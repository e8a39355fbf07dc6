use Rattle.dd_wire.proofs.CallerLemmas.{one-reply, one-explained}
use Rattle.dd_tool.proofs.laws.one_reply.Goals as goal

pub returns-clause-plain : goal.returns-clause-plain
returns-clause-plain c = one-reply c.an_auction_has_one_value.ensures

pub returns-clause-explained : goal.returns-clause-explained
returns-clause-explained c = one-explained c.an_auction_has_one_value.ensures
