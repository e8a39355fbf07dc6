use Rattle.dd_cards.proofs.Masks.{IsMask-and}
use Rattle.dd_cards.proofs.RankLists.{ranks_of-and}
use Rattle.dd_cards.proofs.holding.Holding.intersection.Goals as goal

pub invariant_of-result : goal.invariant_of-result
invariant_of-result c = IsMask-and _ _ c.self.invariant

pub returns : goal.returns
returns c = rw (← c.self.view_is, ← c.other.view_is) (ranks_of-and _ _ c.other.invariant)
