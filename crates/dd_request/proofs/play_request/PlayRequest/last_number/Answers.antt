use Rattle.std.proofs.Common.{◌≡◌, ap, sym, ◌∙◌, length}
use Rattle.dd_play.specs.Board.{tricks_left}
use Rattle.dd_request.specs.Plays.{position_at, tricks_after}
use Rattle.dd_request.proofs.CardByCard.{Stands, number-last}
use Rattle.dd_request.proofs.play_request.PlayRequest.last_number.Goals as goal

pub returns-then-tricks_left-eq0 : goal.returns-then-tricks_left-eq0
returns-then-tricks_left-eq0 c =
    let play = c.args.self.now in
    let count = length c.cards.result.now in
    let many : count ≡ length play.cards = ap length c.cards.ensures.value in
    let s : Stands play count c.after-position.result.0 c.after-position.result.1 = record { valid = c.after-position.ensures.board; regular = c.after-position.ensures.regular; position = c.after-position.ensures.position; won = c.after-position.ensures.won } in
    let none : tricks_left c.after-position.result.0 ≡ 0 = sym c.tricks_left.ensures.tricks ∙ c.if-tricks_left-eq0.true in (
      ap (λ n. tricks_left (position_at play n)) (sym many) ∙ ap tricks_left (sym c.after-position.ensures.position) ∙ none,
      number-last play count c.after-position.result.0 c.after-position.result.1 s none ∙ ap (tricks_after play) many,
    )
