use Rattle.std.proofs.Common.{arith}
use Rattle.dd_rank.specs.Depths.{depth_in}
use Rattle.dd_rank.proofs.CallerLemmas.{full-lead}
use Rattle.dd_table.proofs.shared_table.SharedTable.exact.Goals as goal

pub returns-clause-holds : goal.returns-clause-holds
returns-clause-holds c = λ q board covers.
    let same = full-lead c.args.start.now q (depth_in c.full.result) c.position.ensures.board board c.full.ensures covers in
    let value = c.in_ok-value.ensures.value in
    (omega (arith, same, value), omega (arith, same, value))
