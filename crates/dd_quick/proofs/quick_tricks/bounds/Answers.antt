use Rattle.std.proofs.Common.{◌+◌, ap, ◌∙◌, refl, subst, arith}
use Rattle.dd_cards.specs.Sides.{side_of, other_side}
use Rattle.dd_play.specs.Board.{Board, tricks_left}
use Rattle.dd_play.specs.Reach.{TakesBy, reach}
use Rattle.dd_quick.proofs.Claims.{joint-left}
use Rattle.dd_cards.specs.Seats.{seat_after}
use Rattle.dd_quick.proofs.KeptClaims.{kept-left}
use Rattle.dd_quick.proofs.LaterClaims.{later-most}
use Rattle.dd_quick.proofs.Covered.{sure-within, sure-bounds}
use Rattle.dd_quick.proofs.quick_tricks.bounds.Goals as goal
use Rattle.dd_quick.proofs.quick_tricks.bounds.Goals.{After-of_cards}

-- what each side is sure of at the position that is asked
record Both (c : After-of_cards) : Type 0 where
  ours : TakesBy (reach c.sure_cards.result) (side_of c.args.start.now.first) c.args.start.now (c.leaders-ours.result.side + c.leaders-ours.result.trumps + c.crossing-partners.result.tricks)
  theirs : TakesBy (reach c.all_others_cards.result) (other_side (side_of c.args.start.now.first)) c.args.start.now c.all_others-theirs.result

both : (c : After-of_cards) → Both c
both c = record {
  ours = subst (λ (p : Board). TakesBy (reach c.sure_cards.result) (side_of p.first) p (c.leaders-ours.result.side + c.leaders-ours.result.trumps + c.crossing-partners.result.tricks)) c.position-position.ensures.value c.sure_cards.ensures;
  theirs = subst (λ (p : Board). TakesBy (reach c.all_others_cards.result) (other_side (side_of p.first)) p c.all_others-theirs.result) c.position-position.ensures.value c.all_others_cards.ensures;
}

pub overflow_sub-interval : goal.overflow_sub-interval
overflow_sub-interval c =
    let p = c.position-position.result.now in
    let most = joint-left p.strain p c.tricks_left.ensures.board (ap (λ (q : Board). q.trick) c.position-position.ensures.value ∙ c.position-position.ensures.start) in
    let later = later-most c.position-position.result.now in
    let left_kept = kept-left p (seat_after p.first 1) in
    let right_kept = kept-left p (seat_after p.first 3) in
    let theirs = c.all_others-theirs.ensures.tricks in
    let tricks = c.tricks_left.ensures.tricks in
    omega (arith, most, later, left_kept, right_kept, theirs, tricks)

pub invariant_of-interval : goal.invariant_of-interval
invariant_of-interval c =
    let k = both (goal.at.invariant_of-interval c).After-of_cards in
    let h = sure-within c.args.start.now c.sure_cards.result c.all_others_cards.result (c.leaders-ours.result.side + c.leaders-ours.result.trumps + c.crossing-partners.result.tricks) c.all_others-theirs.result c.position-position.ensures.board k.ours k.theirs in
    let e = c.tricks_left.ensures.tricks ∙ ap tricks_left c.position-position.ensures.value in
    record { ordered = omega (arith, h, e) }

pub returns-clause-holds : goal.returns-clause-holds
returns-clause-holds c =
    let k = both (goal.at.returns-clause-holds c).After-of_cards in
    let p = c.args.start.now in
    let left_is = c.tricks_left.ensures.tricks ∙ ap tricks_left c.position-position.ensures.value in
    sure-bounds p c.sure_cards.result c.all_others_cards.result c.union-cards.result (c.leaders-ours.result.side + c.leaders-ours.result.trumps + c.crossing-partners.result.tricks) c.all_others-theirs.result _ _ _ c.of_cards.ensures.real c.position-position.ensures.board
    c.union-cards.ensures.left c.union-cards.ensures.right c.of_cards.ensures.depths refl (omega (arith, left_is)) k.ours k.theirs
