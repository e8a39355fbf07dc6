use Rattle.dd_cards.proofs.Masks.{IsMask-and}
use Rattle.dd_cards.proofs.RankLists.{ranks_of-below}
use Rattle.dd_cards.proofs.holding.Holding.below.Goals as goal

pub invariant_of-result : goal.invariant_of-result
invariant_of-result c = IsMask-and _ _ c.self.invariant

pub returns : goal.returns
returns c = rw (← c.self.view_is, ← c.code.ensures.value) (ranks_of-below _ _ c.code.ensures.high)
