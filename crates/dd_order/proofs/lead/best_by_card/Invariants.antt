use Rattle.std.proofs.Common.{length}
use Rattle.dd_order.proofs.lead.best_by_card.Given as goal

abbrev pub invariant-ranks : goal.invariant-ranks
invariant-ranks l = Unit {0}

abbrev pub decreases-ranks : goal.decreases-ranks
decreases-ranks l = length l.rest
