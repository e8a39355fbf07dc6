use Rattle.dd_wire.proofs.ExplainingWants.{some-explained_want, one-explained_want}
use Rattle.dd_wire.proofs.laws.one_explained_want.Goals as goal

pub returns-clause-some : goal.returns-clause-some
returns-clause-some c = some-explained_want

pub returns-clause-only : goal.returns-clause-only
returns-clause-only c = one-explained_want
