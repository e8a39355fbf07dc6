use Rattle.dd_quick.proofs.Next.{next-cards}
use Rattle.dd_quick.proofs.winners.partners_run.Goals as goal

pub returns : goal.returns
returns c p suit are = next-cards p suit c.partners_unbeaten.result c.below_run-low.result are.valid (c.partners_unbeaten.ensures p suit are) (c.below_run-low.ensures p p.first suit are) c.above_all.result c.above_all.ensures
