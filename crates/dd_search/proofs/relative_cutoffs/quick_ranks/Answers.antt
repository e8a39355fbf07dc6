use Rattle.std.proofs.Common.{◌∙◌, ◌+◌, ◌-◌, ap, sym, subst}
use Rattle.dd_cards.specs.Sides.{side_of, other_side}
use Rattle.dd_play.specs.Board.{Board, tricks_left}
use Rattle.dd_play.specs.Reach.{reach, TakesBy}
use Rattle.dd_search.specs.ClaimsBy.{IsAnswerBy, AnswerBy}
use Rattle.dd_search.proofs.LedByNorth.{no-north, yes-north}
use Rattle.dd_search.proofs.relative_cutoffs.quick_ranks.Goals as goal

-- The leader's quick tricks are an answer.
pub returns-in-Some-clause-answer : goal.returns-in-Some-clause-answer
returns-in-Some-clause-answer c =
    let p = c.args.coming.now in
    let takes = subst (λ (r : Board). TakesBy (reach c.in-Some.cards) (side_of r.first) r c.args.need) c.start-relative.ensures.same c.in-Some.ensures in
    subst (λ (a : AnswerBy). IsAnswerBy p c.args.need a.cards a.yes) (sym c.new.ensures)
    (yes-north p c.args.need c.in-Some.cards c.reaching.result c.start-relative.ensures.relative.leader c.reaching.ensures takes)

-- So are those of the other side.
pub returns-clause-answer : goal.returns-clause-answer
returns-clause-answer c =
    let p = c.args.coming.now in
    let cards = c.in_ok-cards.cards in
    let same = c.as_trick_start-start.ensures.same ∙ c.start-relative.ensures.same in
    let against = c.tricks_left-left.result + 1 - c.args.need in
    let many = ap (λ n. n + 1 - c.args.need) (c.tricks_left-left.ensures.tricks ∙ ap tricks_left c.start-relative.ensures.same) in
    let takes = subst (λ (r : Board). TakesBy (reach cards) (other_side (side_of r.first)) r against) same c.in_ok-cards.ensures.claim in
    subst (λ (a : AnswerBy). IsAnswerBy p c.args.need a.cards a.yes) (sym c.new-2.ensures)
    (no-north p c.args.need against cards c.reaching-2.result c.start-relative.ensures.relative.leader many c.reaching-2.ensures takes)
