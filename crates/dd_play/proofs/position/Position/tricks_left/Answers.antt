use Rattle.std.proofs.Common.{◌≡◌, ap, ◌∙◌, arith, length}
use Rattle.dd_cards.specs.Hands.{hand_of}
use Rattle.dd_play.specs.Board.{Board, mover, tricks_left}
use Rattle.dd_play.proofs.Lengths.{left-13}
use Rattle.dd_play.proofs.position.Position.tricks_left.Goals as goal

pub returns-clause-bound : goal.returns-clause-bound
returns-clause-bound c =
    let p = c.args.self.now in
    let tricks : c.len.result ≡ tricks_left p =
    c.len.ensures ∙ ap (λ seat. length (hand_of c.self.inside.hands seat)) c.mover.ensures.seat ∙ ap (λ (q : Board). length (hand_of q.hands (mover c.args.self.now))) c.self.view_is in
    let most = left-13 p c.mover.ensures.board in
    omega (arith, tricks, most)
