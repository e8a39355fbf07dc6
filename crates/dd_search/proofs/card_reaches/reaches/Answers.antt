use Rattle.std.proofs.Common.{◌+◌, ◌-◌, ap, ◌∙◌, subst, sym, Bool}
use Rattle.dd_cards.specs.Seats.{is_north_south}
use Rattle.dd_search.specs.ClaimsBy.{IsAnswer}
use Rattle.dd_search.proofs.Scores.{AskedOf, asked-north-south, asked-east-west}
use Rattle.dd_search.proofs.card_reaches.reaches.Goals as goal
use Rattle.dd_search.proofs.card_reaches.reaches.Goals.{then-north_south, else-north_south, in-Some, in-None+in_ok-zero_window-in-None}

pub returns-clause-answer : goal.returns-clause-answer
returns-clause-answer g c =
    let p = c.args.position.now in
    let q = c.play-next.result.0 in
    let rest = c.saturating_sub-rest.result in
    let side = c.is_north_south-north_south.ensures ∙ ap is_north_south c.mover.ensures.seat in
    let answer : IsAnswer q rest c.match-answer_by_counting.yes = elim c.match-answer_by_counting.branch [
      | in-Some w ↦ subst (λ (x : Bool). IsAnswer q rest x) (sym w.yes-is) w.in-Some.ensures.answer
      | in-None+in_ok-zero_window-in-None w ↦ subst (λ (x : Bool). IsAnswer q rest x) (sym w.yes-is) (subst (λ (x : Bool). IsAnswer q rest x) (sym w.is_yes-yes.ensures) w.in_ok-zero_window-in-None.ensures.answer)
    ] in
    let asked : AskedOf p q c.args.card c.if-north_south.need rest c.trick_of.result c.play-next.result.1 c.match-answer_by_counting.yes = record {
      valid = c.play-next.ensures.board;
      valid_next = c.play-next.ensures.legal;
      legal = c.requires;
      next = c.play-next.ensures.next;
      is_point = c.trick_of.ensures.value;
      wins = c.play-next.ensures.wins;
      is_rest = c.saturating_sub-rest.ensures;
      answer = answer;
    } in
    elim c.if-north_south.branch [
      | then-north_south w ↦ asked-north-south p q c.args.card c.args.tricks c.if-north_south.need rest c.trick_of.result c.play-next.result.1 c.match-answer_by_counting.yes c.is_north_south-north_south.result asked side w.if-north_south.true w.need-is
      | else-north_south w ↦ asked-east-west p q c.args.card c.args.tricks c.if-north_south.need rest c.trick_of.result c.play-next.result.1 c.match-answer_by_counting.yes c.is_north_south-north_south.result asked side w.if-north_south.false
          (w.need-is ∙ w.saturating_sub-need.ensures ∙ ap (λ n. n + 1 - c.args.tricks) w.tricks_left.ensures.tricks)
    ]
