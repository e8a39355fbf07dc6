use Rattle.std.specs.Prelude.{◌-◌, if◌then◌else◌}
use Rattle.std.proofs.Common.{◌≡◌, ◌+◌, ◌∙◌, Bool, ap, sym, subst}
use mathlib.Core.Bool.{not}
use Rattle.dd_cards.specs.Seats.{is_north_south}
use Rattle.dd_play.specs.Board.{Board, tricks_left}
use Rattle.dd_search.specs.ClaimsBy.{AnswerBy, IsAnswerAfter}
use Rattle.dd_search.proofs.Relied.{leads-wider, led-against}
use Rattle.dd_search.proofs.relative_cutoffs.ranks_of_second_hand.Goals.{then-leads, else-leads}
use Rattle.dd_search.proofs.relative_cutoffs.ranks_of_second_hand.Goals as goal

-- The tricks that the other side takes are an answer.
pub returns : goal.returns
returns c =
    let p = c.args.trick.now in
    let need = c.args.need in
    let b = c.is_north_south-leads.result in
    let same : c.position-position.result.now ≡ p = c.position-position.ensures.value ∙ c.at_lead.ensures.same in
    let left = c.tricks_left-left.ensures.tricks ∙ ap tricks_left same in
    let many : c.if-leads.others ≡ (if b then tricks_left p + 1 - need else need) = elim c.if-leads.branch [
      | then-leads w ↦ w.others-is ∙ ap (λ n. n + 1 - need) left ∙ sym (ap (λ (x : Bool). if x then tricks_left p + 1 - need else need) w.if-leads.true)
      | else-leads w ↦ w.others-is ∙ sym (ap (λ (x : Bool). if x then tricks_left p + 1 - need else need) w.if-leads.false)
    ] in
    let takes = c.in-Some.ensures c.args.card c.requires.legal (sym c.suit-suit.ensures) in
    let found = led-against p c.args.card need c.if-leads.others c.in-Some.cards b c.at_lead.ensures.board c.requires.start c.requires.legal c.requires.low c.requires.high
    (c.is_north_south-leads.ensures ∙ ap is_north_south (c.first.ensures ∙ ap (λ (r : Board). r.first) same)) many takes in
    let wider = leads-wider p need c.args.card c.in-Some.cards c.reaching.result (not b) c.reaching.ensures found in
    record { found = subst (λ (a : AnswerBy). IsAnswerAfter p need c.args.card a.cards a.yes) (sym c.new.ensures) wider }
