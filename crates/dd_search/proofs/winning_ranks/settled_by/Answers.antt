use Rattle.std.proofs.Common.{refl, arith}
use Rattle.dd_play.specs.Reach.{reach}
use Rattle.dd_search.proofs.winning_ranks.settled_by.Goals as goal
use Rattle.dd_play.proofs.CallerLemmas.{reach-in}

pub returns-clause-settled : goal.returns-clause-settled
returns-clause-settled c = c.requires (reach c.union.result) (λ d has. reach-in c.union.result d (c.union.ensures.right d has))
