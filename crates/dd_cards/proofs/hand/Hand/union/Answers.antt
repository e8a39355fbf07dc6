use Rattle.dd_cards.proofs.Unions.{cards_of-or, IsHandMask-or, union-left, union-right}
use Rattle.dd_cards.proofs.hand.Hand.union.Goals as goal

pub invariant_of-result : goal.invariant_of-result
invariant_of-result c = IsHandMask-or _ _ c.self.invariant c.other.invariant

pub returns-clause-cards : goal.returns-clause-cards
returns-clause-cards c = rw (← c.self.view_is, ← c.other.view_is) (cards_of-or _ _)

pub returns-clause-left : goal.returns-clause-left
returns-clause-left c = rw (← c.self.view_is) (union-left c.self.inside.mask c.other.inside.mask)

pub returns-clause-right : goal.returns-clause-right
returns-clause-right c = rw (← c.other.view_is) (union-right c.self.inside.mask c.other.inside.mask)
