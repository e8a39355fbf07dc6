use Rattle.std.proofs.Common.{refl, ap, ◌∙◌, [], ◌∷◌, get_or}
use Rattle.dd_cards.specs.Hands.{dealt}
use Rattle.dd_play.specs.Play.{after}
use Rattle.dd_relative.specs.Turned.{from_seat}
use Rattle.dd_relative.proofs.Fourths.{IsFourth, finish-alike, finished, fourth, next-board}
use Rattle.dd_relative.proofs.Lefts.{alike-cards, alike-tricks}
use Rattle.dd_relative.proofs.UnderWay.{IsFinish, hand-left, same-dealt}
use Rattle.dd_relative.proofs.placed_trick.PlacedTrick.next_start.Goals as goal
use Rattle.dd_relative.proofs.placed_trick.PlacedTrick.next_start.Goals.{After-strain-strain}

full : (c : After-strain-strain) → IsFourth c.self.inside.start.now c.args.self.now (get_or c.self.inside.trick 0 c.index-trick-0.result) (get_or c.self.inside.trick 1 c.index-trick-1.result) (get_or c.self.inside.trick 2 c.index-trick-2.result) c.args.card
full c =
    fourth c.self.inside.start.now c.args.self.now c.self.inside.trick c.self.inside.played c.index-trick-0.result c.index-trick-1.result c.index-trick-2.result c.args.card
    c.hand.ensures.relative c.self.invariant.1 c.self.invariant.0 c.self.invariant.2 c.self.view_is c.requires.turn c.requires.card

done : (c : After-strain-strain) → IsFinish c.args.self.now c.args.card c.turned-leader_left.result.0 c.turned-leader_left.result.1 c.turned-leader_left.result.2 c.turned-leader_left.result.3 (get_or c.self.inside.trick 0 c.index-trick-0.result ∷ get_or c.self.inside.trick 1 c.index-trick-1.result ∷ get_or c.self.inside.trick 2 c.index-trick-2.result ∷ c.args.card ∷ []) c.strain-strain.result c.args.winner
done c =
    let s = c.self.inside.start.now in
    finished s c.args.self.now _ _ _ c.args.card (full c) c.turned-leader_left.result.0 c.turned-leader_left.result.1 c.turned-leader_left.result.2 c.turned-leader_left.result.3 (get_or c.self.inside.trick 0 c.index-trick-0.result ∷ get_or c.self.inside.trick 1 c.index-trick-1.result ∷ get_or c.self.inside.trick 2 c.index-trick-2.result ∷ c.args.card ∷ []) c.strain-strain.result c.args.winner
    (c.turned-leader_left.ensures
    ∙ ap (λ h. from_seat h c.args.winner) (same-dealt c.without_place.result c.without_place-2.result c.without_place-3.result c.without_place-4.result _ _ _ _
    (hand-left s.hands.north c.hand.result c.without_place.result _ c.without_place.ensures c.hand.ensures.cards)
    (hand-left s.hands.east c.hand-2.result c.without_place-2.result _ c.without_place-2.ensures c.hand-2.ensures.cards)
    (hand-left s.hands.south c.hand-3.result c.without_place-3.result _ c.without_place-3.ensures c.hand-3.ensures.cards)
    (hand-left s.hands.west c.hand-4.result c.without_place-4.result _ c.without_place-4.ensures c.hand-4.ensures.cards)))
    c.strain-strain.ensures.strain c.requires.winner refl

pub closed_over-next-requires : goal.closed_over-next-requires
closed_over-next-requires c = (done (goal.at.closed_over-next-requires c).After-strain-strain).gapped

pub returns-clause-alike : goal.returns-clause-alike
returns-clause-alike c = finish-alike _ _ _ _ _ _ _ _ _ c.closed_over-next.result c.new.result (done (goal.at.returns-clause-alike c).After-strain-strain) c.closed_over-next.ensures c.new.ensures.same

pub returns-clause-tricks : goal.returns-clause-tricks
returns-clause-tricks c =
    let at = (goal.at.returns-clause-tricks c).After-strain-strain in
    alike-tricks (after c.args.self.now c.args.card) c.new.result (next-board _ _ _ _ _ _ (full at)) c.new.ensures.relative.board
    (finish-alike _ _ _ _ _ _ _ _ _ c.closed_over-next.result c.new.result (done at) c.closed_over-next.ensures c.new.ensures.same)

pub returns-clause-cards : goal.returns-clause-cards
returns-clause-cards c =
    let at = (goal.at.returns-clause-cards c).After-strain-strain in
    alike-cards (after c.args.self.now c.args.card) c.new.result (next-board _ _ _ _ _ _ (full at)) c.new.ensures.relative.board
    (finish-alike _ _ _ _ _ _ _ _ _ c.closed_over-next.result c.new.result (done at) c.closed_over-next.ensures c.new.ensures.same)
