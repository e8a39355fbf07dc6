use Rattle.dd_search.proofs.Greatest.{score-most, score-reached}
use Rattle.dd_search.proofs.laws.value_is_the_greatest_score.Goals as goal

pub returns-clause-most : goal.returns-clause-most
returns-clause-most c = score-most

pub returns-clause-reached : goal.returns-clause-reached
returns-clause-reached c = score-reached
