use Rattle.std.proofs.Common.{sym, ◌∙◌, arith}
use Rattle.dd_solve.proofs.Numbers.{mover-takes, other-takes}
use Rattle.dd_solve.proofs.play_solving.tricks_of_side.Goals as goal

pub overflow_sub-result : goal.overflow_sub-result
overflow_sub-result c =
    let fewer = (other-takes c.args.side c.args.position.now c.args.value c.plays.ensures.board c.requires (sym c.plays.ensures.turn ∙ c.if-plays.false)).0 in
    let left = c.tricks_left.ensures.tricks in
    omega (arith, fewer, left)

pub returns-then-plays : goal.returns-then-plays
returns-then-plays c =
    let takes = mover-takes c.args.side c.args.position.now c.args.value c.plays.ensures.board c.requires (sym c.plays.ensures.turn ∙ c.if-plays.true) in
    record { tricks = takes.0; bound = takes.1 }

pub returns-else-plays : goal.returns-else-plays
returns-else-plays c =
    let takes = other-takes c.args.side c.args.position.now c.args.value c.plays.ensures.board c.requires (sym c.plays.ensures.turn ∙ c.if-plays.false) in
    let left = c.tricks_left.ensures.tricks in
    record { tricks = rw left takes.1; bound = omega (arith, left) }
