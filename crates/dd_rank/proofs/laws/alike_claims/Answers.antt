use Rattle.dd_rank.proofs.Carried.{carried-lead, carried-against}
use Rattle.dd_rank.proofs.laws.alike_claims.Goals as goal

pub returns-clause-leaders : goal.returns-clause-leaders
returns-clause-leaders c = carried-lead

pub returns-clause-others : goal.returns-clause-others
returns-clause-others c = carried-against
