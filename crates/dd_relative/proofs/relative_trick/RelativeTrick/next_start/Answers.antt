use Rattle.std.proofs.Common.{ap, ◌∙◌, subst, [], ◌∷◌, get_or}
use Rattle.dd_cards.specs.Cards.{without}
use Rattle.dd_cards.specs.Hands.{dealt}
use Rattle.dd_play.specs.Board.{Board}
use Rattle.dd_play.specs.Play.{after}
use Rattle.dd_rank.specs.Alike.{IsAlike}
use Rattle.dd_relative.specs.Turned.{from_seat}
use Rattle.dd_relative.proofs.TrickRanks.{four-same}
use Rattle.dd_relative.proofs.Turned.{alike-turned}
use Rattle.dd_relative.proofs.UnderWay.{IsFinish, finish, hand-left, same-dealt}
use Rattle.dd_relative.proofs.relative_trick.RelativeTrick.next_start.Goals as goal
use Rattle.dd_relative.proofs.relative_trick.RelativeTrick.next_start.Goals.{After-of-4}

finished : (c : After-of-4) → IsFinish c.args.self.now c.args.card c.turned-leader_left.result.0 c.turned-leader_left.result.1 c.turned-leader_left.result.2 c.turned-leader_left.result.3 (c.of.result ∷ c.of-2.result ∷ c.of-3.result ∷ c.of-4.result ∷ []) c.strain-strain.result c.winner-seat.result
finished c =
    let s = c.self.inside.start in
    let x = get_or c.self.inside.trick 0 c.index-self-0.result in
    let y = get_or c.self.inside.trick 1 c.index-self-1.result in
    let z = get_or c.self.inside.trick 2 c.index-self-2.result in
    finish s c.args.self.now c.self.inside.trick c.self.inside.played c.index-self-0.result c.index-self-1.result c.index-self-2.result c.args.card
    c.turned-leader_left.result.0 c.turned-leader_left.result.1 c.turned-leader_left.result.2 c.turned-leader_left.result.3 (c.of.result ∷ c.of-2.result ∷ c.of-3.result ∷ c.of-4.result ∷ []) c.strain-strain.result c.winner-seat.result
    c.leader.ensures.relative c.self.invariant.1 c.self.invariant.0 c.self.invariant.2 c.self.view_is c.requires.turn c.requires.card
    (c.turned-leader_left.ensures
    ∙ ap (λ h. from_seat h c.winner-seat.result) (same-dealt c.without.result c.without-2.result c.without-3.result c.without-4.result _ _ _ _
    (hand-left s.hands.north c.leader.result c.without.result x c.without.ensures c.leader.ensures.cards)
    (hand-left s.hands.east c.second.result c.without-2.result y c.without-2.ensures c.second.ensures.cards)
    (hand-left s.hands.south c.third.result c.without-3.result z c.without-3.ensures c.third.ensures.cards)
    (hand-left s.hands.west c.fourth.result c.without-4.result c.args.card c.without-4.ensures c.fourth.ensures.cards)))
    c.strain-strain.ensures c.winner-seat.ensures
    (four-same c.of.result c.of-2.result c.of-3.result c.of-4.result x y z c.args.card c.of.ensures.card c.of-2.ensures.card c.of-3.ensures.card c.of-4.ensures.card)

pub closed_over-next-requires : goal.closed_over-next-requires
closed_over-next-requires c = (finished (goal.at.closed_over-next-requires c).After-of-4).gapped

pub returns-clause-alike : goal.returns-clause-alike
returns-clause-alike c =
    let f = finished (goal.at.returns-clause-alike c).After-of-4 in
    alike-turned (after c.args.self.now c.args.card) c.closed_over-next.result f.start (subst (λ (b : Board). IsAlike b c.closed_over-next.result) f.same c.closed_over-next.ensures)

pub returns-clause-winner : goal.returns-clause-winner
returns-clause-winner c = (finished (goal.at.returns-clause-winner c).After-of-4).winner
