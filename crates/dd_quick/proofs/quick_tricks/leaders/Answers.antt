use Rattle.std.proofs.Common.{ap, arith, ◌∙◌}
use Rattle.dd_cards.specs.Seats.{seat_after}
use Rattle.dd_quick.specs.QuickTricks.{trumps_at}
use Rattle.dd_quick.proofs.Claims.{trumps-left}
use Rattle.dd_quick.proofs.quick_tricks.leaders.Goals as goal

pub overflow_sub-tricks_left : goal.overflow_sub-tricks_left
overflow_sub-tricks_left c =
    let p = c.args.position.now in
    let most = trumps-left p.strain p 2 c.tricks_left.ensures.board c.requires (omega arith) in
    let trumps = c.trumps.ensures.trumps ∙ ap (trumps_at p.strain p) (c.partner.ensures ∙ ap (λ x. seat_after x 2) c.first-leader.ensures) in
    let left = c.tricks_left.ensures.tricks in
    omega (arith, most, trumps, left)
