use Rattle.std.proofs.Common.{◌≡◌, ap, sym, ◌∙◌, arith, true}
use Rattle.dd_play.specs.Board.{tricks_left}
use Rattle.dd_request.specs.Plays.{declarers}
use Rattle.dd_cards.specs.Sides.{same_side}
use Rattle.dd_play.specs.Same.{same_board}
use Rattle.dd_book.proofs.Numbers.{number-is, sides-told}
use Rattle.dd_play.proofs.CallerLemmas.{same_board-is}
use Rattle.dd_book.proofs.job.number_after.Goals as goal

pub overflow_add-result : goal.overflow_add-result
overflow_add-result c =
    let same : c.after-position.result.0 ≡ c.args.solved.now.board = same_board-is _ _ (sym c.eq.ensures ∙ c.if-eq.true) ∙ c.position.ensures in
    let left = ap tricks_left same in
    let few = c.after-position.ensures.bound in
    let takes = c.tricks.ensures.bound in
    omega (arith, left, few, takes)

pub returns-then-eq-2 : goal.returns-then-eq-2
returns-then-eq-2 c =
    let board : same_board c.after-position.result.0 c.args.solved.now.board ≡ true = ap (same_board c.after-position.result.0) (sym c.position.ensures) ∙ sym c.eq.ensures ∙ c.if-eq.true in
    let side : same_side (declarers c.args.request.now.opening) c.args.solved.now.side ≡ true =
    ap (λ s. same_side s c.args.solved.now.side) (sym c.declarers.ensures) ∙ ap (same_side c.declarers.result) (sym c.side.ensures) ∙ sym (sides-told c.declarers.result c.side.result) ∙ sym c.eq-then-eq.ensures ∙ c.if-eq-2.true in
    number-is c.args.request.now c.args.count c.after-position.result.0 c.args.solved.now c.after-position.result.1 c.tricks.result c.after-position.ensures.position c.after-position.ensures.won board side
    c.tricks.ensures.value c.tricks.ensures.solved
