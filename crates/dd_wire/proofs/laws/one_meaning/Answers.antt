use Rattle.dd_wire.proofs.LineMeanings.{some-meaning, one-meaning}
use Rattle.dd_wire.proofs.laws.one_meaning.Goals as goal

pub returns-clause-some : goal.returns-clause-some
returns-clause-some c = some-meaning

pub returns-clause-only : goal.returns-clause-only
returns-clause-only c = one-meaning
