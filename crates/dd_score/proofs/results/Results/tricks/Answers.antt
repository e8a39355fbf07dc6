use Rattle.dd_score.proofs.TableLemmas.{table-bound}
use Rattle.dd_score.proofs.results.Results.tricks.Goals as goal

pub returns-clause-bound : goal.returns-clause-bound
returns-clause-bound c = table-bound c.self.inside.tricks c.code.result c.code-2.result c.self.invariant
