use Rattle.std.proofs.Common.{arith}
use Rattle.dd_solve.proofs.Leads.{leaders-value}
use Rattle.dd_solve.proofs.table_part.declarers_tricks.Goals as goal

pub overflow_sub-result : goal.overflow_sub-result
overflow_sub-result g c =
    let known = leaders-value c.args.position.now c.tricks_left.ensures.board c.requires.start in
    let most = known.1 in
    let same = known.0 in
    let left = c.tricks_left.ensures.tricks in
    let value = c.in_ok-leaders.ensures.value in
    omega (arith, most, same, left, value)
