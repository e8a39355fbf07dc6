use Rattle.std.proofs.Common.{ap, ◌∙◌, ◌≡◌, ◌-◌, sym}
use Rattle.dd_cards.specs.Seats.{is_north_south}
use Rattle.dd_cards.specs.Sides.{side_of, other_side}
use Rattle.dd_play.specs.Board.{Board, tricks_left}
use Rattle.dd_play.specs.Reach.{reach, TakesBy}
use Rattle.dd_search.proofs.Relied.{IsWindowBy, turned-by, yes-window, no-window}
use Rattle.dd_search.proofs.cutoffs.interval_of.Goals as goal
use Rattle.dd_search.proofs.cutoffs.interval_of.Goals.{After-leaders_interval, then-is_yes, else-is_yes}

both : (c : After-leaders_interval) → TakesBy (reach c.args.answer.now.cards) (side_of c.args.start.now.first) c.args.start.now c.leaders_interval.result.lo × TakesBy (reach c.args.answer.now.cards) (other_side (side_of c.args.start.now.first)) c.args.start.now (tricks_left c.args.start.now - c.leaders_interval.result.hi)
both c =
    let p = c.args.start.now in
    let tricks : c.tricks_left-left.result ≡ tricks_left p = c.tricks_left-left.ensures.tricks ∙ ap tricks_left c.position-position.ensures.value in
    let window : IsWindowBy p c.args.answer.now.cards c.if-is_yes.window.0 c.if-is_yes.window.1.0 = elim c.if-is_yes.branch [
      | then-is_yes w ↦ yes-window p c.args.need c.args.answer.now.cards c.args.answer.now.yes c.if-is_yes.window.0 c.if-is_yes.window.1.0 c.requires.answer (sym c.is_yes.ensures ∙ w.if-is_yes.true) (ap (λ i. i.0) w.window-is) (ap (λ i. i.1.0) w.window-is ∙ tricks)
      | else-is_yes w ↦ no-window p c.args.need c.args.answer.now.cards c.args.answer.now.yes c.if-is_yes.window.0 c.if-is_yes.window.1.0 c.requires.answer (sym c.is_yes.ensures ∙ w.if-is_yes.false) (ap (λ i. i.0) w.window-is) (ap (λ i. i.1.0) w.window-is) c.requires.low
    ] in
    turned-by p c.args.answer.now.cards c.if-is_yes.window.0 c.if-is_yes.window.1.0 c.leaders_interval.result.lo c.leaders_interval.result.hi c.is_north_south-leads.result c.tricks_left-left.result
    (c.is_north_south-leads.ensures ∙ ap is_north_south (c.first.ensures ∙ ap (λ (q : Board). q.first) c.position-position.ensures.value))
    tricks (record { same = c.leaders_interval.ensures.same; other = c.leaders_interval.ensures.other }) window

pub returns-clause-theirs : goal.returns-clause-theirs
returns-clause-theirs c = (both c).0

pub returns-clause-others : goal.returns-clause-others
returns-clause-others c = (both c).1
