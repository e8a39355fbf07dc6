use Rattle.dd_wire.proofs.WantMeanings.{some-want, one-want}
use Rattle.dd_wire.proofs.laws.one_want.Goals as goal

pub returns-clause-some : goal.returns-clause-some
returns-clause-some c = some-want

pub returns-clause-only : goal.returns-clause-only
returns-clause-only c = one-want
