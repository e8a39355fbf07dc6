use Rattle.std.proofs.Common.{sym, ap, ◌∙◌}
use Rattle.dd_cards.specs.declared.seat.Seat.TheVariants.{North}
use Rattle.dd_cards.specs.Seats.{seat_after}
use Rattle.dd_play.specs.Board.{cards_at}
use Rattle.dd_relative.proofs.UnderWay.{hand-at, hand-last}
use Rattle.dd_relative.proofs.relative_trick.RelativeTrick.hand_at.Goals as goal

pub returns-then-played-eq0 : goal.returns-then-played-eq0
returns-then-played-eq0 c =
    hand-at c.self.inside.start c.args.self.now c.self.inside.trick c.leader.result c.self.inside.played c.args.played c.leader.ensures.relative c.self.invariant.1 c.self.invariant.0 c.self.view_is c.requires
    (c.leader.ensures.cards ∙ ap (λ i. cards_at c.self.inside.start (seat_after North i)) (sym c.if-played-eq0.true))

pub returns-then-played-eq1 : goal.returns-then-played-eq1
returns-then-played-eq1 c =
    hand-at c.self.inside.start c.args.self.now c.self.inside.trick c.second.result c.self.inside.played c.args.played c.second.ensures.relative c.self.invariant.1 c.self.invariant.0 c.self.view_is c.requires
    (c.second.ensures.cards ∙ ap (λ i. cards_at c.self.inside.start (seat_after North i)) (sym c.if-played-eq1.true))

pub returns-then-played-eq2 : goal.returns-then-played-eq2
returns-then-played-eq2 c =
    hand-at c.self.inside.start c.args.self.now c.self.inside.trick c.third.result c.self.inside.played c.args.played c.third.ensures.relative c.self.invariant.1 c.self.invariant.0 c.self.view_is c.requires
    (c.third.ensures.cards ∙ ap (λ i. cards_at c.self.inside.start (seat_after North i)) (sym c.if-played-eq2.true))

pub returns-else-played-eq2 : goal.returns-else-played-eq2
returns-else-played-eq2 c =
    hand-last c.self.inside.start c.args.self.now c.self.inside.trick c.fourth.result c.self.inside.played c.args.played c.fourth.ensures.relative c.self.invariant.1 c.self.invariant.0 c.self.view_is c.requires
    c.if-played-eq0.false c.if-played-eq1.false c.if-played-eq2.false c.fourth.ensures.cards
