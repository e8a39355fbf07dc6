use Rattle.std.proofs.Common.{ap, ◌∙◌, ◌≤◌, subst, sym}
use Rattle.dd_cards.specs.Seats.{seat_after}
use Rattle.dd_play.specs.Reach.{reach}
use Rattle.dd_quick.specs.QuickTricks.{RestsOnTrumps, joint_trumps}
use Rattle.dd_quick.proofs.Covered.{others-by}
use Rattle.dd_quick.proofs.Claims.{joint-rests}
use Rattle.dd_quick.proofs.quick_tricks.others_cards.Goals as goal

pub returns : goal.returns
returns c =
    let p = c.args.position.now in
    let cards = c.with_trumps.result in
    let seat = c.left.ensures ∙ ap (λ x. seat_after x 1) c.first.ensures in
    let rests = subst (λ x. RestsOnTrumps p.strain p x cards c.args.need) seat (c.with_trumps.ensures.trumps (subst (λ x. c.args.need ≤ joint_trumps p.strain p x) (sym seat) c.requires.few)) in
    others-by (reach cards) p c.args.need c.requires.start c.requires.few (joint-rests p.strain p 1 cards c.args.need c.requires.few rests)
