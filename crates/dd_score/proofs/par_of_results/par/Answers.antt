use Rattle.std.proofs.Common.{rules}
use Rattle.dd_score.proofs.EmptyList.{empty-of}
use Rattle.dd_score.proofs.par_of_results.par.Goals as goal

pub returns-clause-none : goal.returns-clause-none
returns-clause-none c = empty-of c.args.results.now c.args.vulnerable c.args.order _ _ (search rules) (search rules)
