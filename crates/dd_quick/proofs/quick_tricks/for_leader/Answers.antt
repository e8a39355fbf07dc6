use Rattle.std.proofs.Common.{ap, arith, ◌∙◌, subst}
use Rattle.dd_cards.specs.Sides.{side_of}
use Rattle.dd_play.specs.Board.{Board}
use Rattle.dd_play.specs.Reach.{TakesBy, reach}
use Rattle.dd_quick.specs.QuickTricks.{beside_trumps, joint_trumps, quick_lo, side_tricks}
use Rattle.dd_quick.proofs.AcrossClaims.{crossed-most}
use Rattle.dd_quick.proofs.quick_tricks.for_leader.Goals as goal

pub returns-then-need-ours-3-clause-claim : goal.returns-then-need-ours-3-clause-claim
returns-then-need-ours-3-clause-claim c = subst (λ (p : Board). TakesBy (reach c.crossing_cards.result) (side_of p.first) p c.args.need) c.position-position.ensures.value c.crossing_cards.ensures.leads

-- more than the sure tricks with all that is left beside trumps are not quick tricks
pub returns-then-need-ours-2-clause-found : goal.returns-then-need-ours-2-clause-found
unfolding quick_lo
returns-then-need-ours-2-clause-found c few = absurd (
    let p = c.args.start.now in
    let value = c.position-position.ensures.value in
    let side = c.leaders-ours.ensures.side ∙ ap side_tricks value in
    let trumps = c.leaders-ours.ensures.trumps ∙ ap (λ (q : Board). joint_trumps q.strain q q.first) value in
    let beside = c.beside_trumps-most.ensures.tricks ∙ ap beside_trumps value in
    let most = (crossed-most p).1 in
    let over = c.if-need-ours-2.true in
    omega (arith, few, side, trumps, beside, most, over))
