use Rattle.std.proofs.Common.{refl}
use Rattle.dd_play.specs.Value.{ns_within}
use Rattle.dd_play.proofs.laws.worked_deals.Goals as goal

pub returns-clause-ace : goal.returns-clause-ace
unfolding ns_within
returns-clause-ace c = refl

pub returns-clause-king : goal.returns-clause-king
unfolding ns_within
returns-clause-king c = refl

pub returns-clause-caught : goal.returns-clause-caught
unfolding ns_within
returns-clause-caught c = refl

pub returns-clause-safe : goal.returns-clause-safe
unfolding ns_within
returns-clause-safe c = refl

pub returns-clause-ruff : goal.returns-clause-ruff
unfolding ns_within
returns-clause-ruff c = refl
