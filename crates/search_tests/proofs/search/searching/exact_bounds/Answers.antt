use Rattle.std.proofs.Common.{arith}
use Rattle.search_tests.proofs.search.searching.exact_bounds.Goals as goal

pub returns-in-Ok-clause-holds : goal.returns-in-Ok-clause-holds
returns-in-Ok-clause-holds c = λ q good covers.
    let value = c.in-Ok.ensures.value in
    let same = c.in-Ok.ensures.depths q good covers in
    (omega (arith, value, same), omega (arith, value, same))
