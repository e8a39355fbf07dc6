use Rattle.std.proofs.Common.{◌+◌, ◌-◌, ap, ◌∙◌, subst, sym, Bool}
use Rattle.dd_cards.specs.Seats.{is_north_south}
use Rattle.dd_search.specs.ClaimsBy.{IsAnswer}
use Rattle.dd_search.proofs.Known.{takes-north-south, takes-east-west}
use Rattle.dd_search.proofs.known_tricks.takes.Goals as goal
use Rattle.dd_search.proofs.known_tricks.takes.Goals.{then-north_south, else-north_south, in-Some, in-None+in_ok-zero_window-in-None}

pub returns-clause-answer : goal.returns-clause-answer
returns-clause-answer g c =
    let p = c.args.position.now in
    let need = c.if-north_south.need in
    let valid = c.mover.ensures.board in
    let side = c.is_north_south-north_south.ensures ∙ ap is_north_south c.mover.ensures.seat in
    let answer : IsAnswer p need c.match-answer_by_counting.yes = elim c.match-answer_by_counting.branch [
      | in-Some w ↦ subst (λ (x : Bool). IsAnswer p need x) (sym w.yes-is) w.in-Some.ensures.answer
      | in-None+in_ok-zero_window-in-None w ↦ subst (λ (x : Bool). IsAnswer p need x) (sym w.yes-is) (subst (λ (x : Bool). IsAnswer p need x) (sym w.is_yes-yes.ensures) w.in_ok-zero_window-in-None.ensures.answer)
    ] in
    elim c.if-north_south.branch [
      | then-north_south w ↦ takes-north-south p c.args.tricks need c.match-answer_by_counting.yes c.is_north_south-north_south.result valid answer side w.if-north_south.true w.need-is
      | else-north_south w ↦ takes-east-west p c.args.tricks need c.match-answer_by_counting.yes c.is_north_south-north_south.result valid answer side w.if-north_south.false
          (w.need-is ∙ w.saturating_sub-need.ensures ∙ ap (λ n. n + 1 - c.args.tricks) w.tricks_left.ensures.tricks)
    ]
