use Rattle.std.proofs.Common.{arith}
use Rattle.dd_solve.proofs.Reaching.{none-reaches}
use Rattle.dd_solve.proofs.target_solving.card_reaches.Goals as goal

pub returns-then-target-tricks_left-clause-answer : goal.returns-then-target-tricks_left-clause-answer
returns-then-target-tricks_left-clause-answer g c =
    let left = c.tricks_left.ensures.tricks in
    none-reaches c.args.position.now c.args.target c.args.card c.requires.board c.requires.legal (omega (arith, left))
