use Rattle.dd_cards.proofs.Masks.{IsMask-both}
use Rattle.dd_cards.proofs.RankLists.{ranks_of-or}
use Rattle.dd_cards.proofs.holding.Holding.union.Goals as goal

pub invariant_of-result : goal.invariant_of-result
invariant_of-result c = IsMask-both _ _ c.self.invariant c.other.invariant

pub returns : goal.returns
returns c = rw (← c.self.view_is, ← c.other.view_is) (ranks_of-or _ _ c.self.invariant c.other.invariant)
