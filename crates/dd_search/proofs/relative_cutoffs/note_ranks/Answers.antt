use Rattle.std.proofs.Common.{◌∙◌, arith, ap, sym, subst, List}
use Rattle.dd_cards.specs.PlayingCard.{PlayingCard}
use Rattle.dd_play.specs.Board.{Board, IsBoard, tricks_left}
use Rattle.dd_play.specs.Reach.{reach}
use Rattle.dd_rank.specs.Depths.{depth_in, depths_of}
use Rattle.dd_rank.proofs.CallerLemmas.{noted}
use Rattle.dd_search.specs.ClaimsBy.{IsAnswerBy}
use Rattle.dd_search.proofs.Relied.{IsWindowBy, yes-window, no-window}
use Rattle.dd_search.proofs.LedByNorth.{window-north}
use Rattle.dd_search.proofs.relative_cutoffs.note_ranks.Goals.{then-is_yes, else-is_yes}
use Rattle.dd_search.proofs.relative_cutoffs.note_ranks.Goals as goal

-- What it tells of both sides' tricks holds of each position that is covered.
pub note_by-requires-clause-holds : goal.note_by-requires-clause-holds
note_by-requires-clause-holds g c =
    let p = c.as_trick_start-start.result.now in
    let same = c.as_trick_start-start.ensures.same ∙ c.start-relative.ensures.same in
    let cards = c.ranks.result in
    let i = c.if-is_yes.interval in
    let ranks = c.ranks.ensures in
    let answer : IsAnswerBy p c.args.need cards c.args.answer.now.yes = subst (λ (r : Board). IsAnswerBy r c.args.need cards c.args.answer.now.yes) (sym same)
    (subst (λ (xs : List PlayingCard). IsAnswerBy c.args.coming.now c.args.need xs c.args.answer.now.yes) (sym ranks) c.requires.answer) in
    let window : IsWindowBy p cards i.0 i.1.0 = elim c.if-is_yes.branch [
      | then-is_yes w ↦ yes-window p c.args.need cards c.args.answer.now.yes i.0 i.1.0 answer (sym c.is_yes.ensures ∙ w.if-is_yes.true) (ap (λ x. x.0) w.interval-is)
          (ap (λ x. x.1.0) w.interval-is ∙ w.tricks_left.ensures.tricks ∙ ap tricks_left (sym c.as_trick_start-start.ensures.same))
      | else-is_yes w ↦ no-window p c.args.need cards c.args.answer.now.yes i.0 i.1.0 answer (sym c.is_yes.ensures ∙ w.if-is_yes.false) (ap (λ x. x.0) w.interval-is) (ap (λ x. x.1.0) w.interval-is) c.requires.low
    ] in
    let claims = window-north p cards i.0 i.1.0 (ap (λ (r : Board). r.first) c.as_trick_start-start.ensures.same ∙ c.as_trick_start-start.ensures.relative.leader) window in
    noted cards (depth_in c.depths-depths.result) p i.0 i.1.0 c.depths-depths.ensures.real (subst IsBoard (sym c.as_trick_start-start.ensures.same) c.as_trick_start-start.ensures.relative.board) (λ u. let e = c.depths-depths.ensures.depths u ∙ ap (λ (r : Board). depths_of (reach cards) r u) (sym c.as_trick_start-start.ensures.same) in omega (arith, e)) claims.0 claims.1
