use Rattle.std.proofs.Common.{◌≡◌, ap, refl, sym, ◌∙◌, get_or}
use Rattle.dd_cards.specs.Cards.{without}
use Rattle.dd_cards.specs.Seats.{seat_code}
use Rattle.dd_play.specs.Play.{after, trick_with}
use Rattle.dd_play.specs.Tricks.{winner_of}
use Rattle.dd_relative.proofs.Fourths.{IsFourth, first-is, fourth, one-of-suit, settled-one, settled-top, winner-is}
use Rattle.dd_relative.proofs.placed_trick.PlacedTrick.outcome.Goals as goal
use Rattle.dd_relative.proofs.placed_trick.PlacedTrick.outcome.Goals.{After-is_empty}

full : (c : After-is_empty) → IsFourth c.self.inside.start.now c.args.self.now (get_or c.self.inside.trick 0 c.index-trick-0.result) (get_or c.self.inside.trick 1 c.index-trick-1.result) (get_or c.self.inside.trick 2 c.index-trick-2.result) c.args.card
full c =
    fourth c.self.inside.start.now c.args.self.now c.self.inside.trick c.self.inside.played c.index-trick-0.result c.index-trick-1.result c.index-trick-2.result c.args.card
    c.strain.ensures.relative c.self.invariant.1 c.self.invariant.0 c.self.invariant.2 c.self.view_is c.requires.turn c.requires.card

wins : (c : After-is_empty) → c.winner_with_card-winner.result.0 ≡ winner_of (trick_with c.args.self.now c.args.card) c.args.self.now.first c.args.self.now.strain
wins c = winner-is _ _ _ _ _ _ (full c) c.strain.result c.winner_with_card-winner.result.0 c.strain.ensures.strain c.winner_with_card-winner.ensures.seat

first : (c : After-is_empty) → c.winner_with_card-winner.result.0 ≡ (after c.args.self.now c.args.card).first
first c = wins c ∙ sym (first-is _ _ _ _ _ _ (full c))

pub returns-then-is_empty-clause-wins : goal.returns-then-is_empty-clause-wins
returns-then-is_empty-clause-wins c = wins (goal.at.returns-then-is_empty-clause-wins c).After-is_empty

pub returns-then-is_empty-clause-first : goal.returns-then-is_empty-clause-first
returns-then-is_empty-clause-first c = first (goal.at.returns-then-is_empty-clause-first c).After-is_empty

pub returns-then-is_empty-clause-contested : goal.returns-then-is_empty-clause-contested
returns-then-is_empty-clause-contested c = λ top on.
    let a = (goal.at.returns-then-is_empty-clause-contested c).After-is_empty in
    let seat = c.winner_with_card-winner.result.0 in
    let won = c.winner_with_card-winner.result.1 in
    let few = one-of-suit _ _ _ _ _ _ (full a) c.four_cards.result c.without_place-others.result won c.four_cards.ensures (c.without_place-others.ensures ∙ ap (λ l. without l won) c.of_suit_at.ensures)
    (c.is_empty.ensures.0 c.if-is_empty.true) in
    settled-one _ _ _ _ _ _ (full a) seat (seat_code seat) won (first a) refl c.winner_with_card-winner.ensures.card few top

pub returns-else-is_empty-clause-wins : goal.returns-else-is_empty-clause-wins
returns-else-is_empty-clause-wins c = wins (goal.at.returns-else-is_empty-clause-wins c).After-is_empty

pub returns-else-is_empty-clause-first : goal.returns-else-is_empty-clause-first
returns-else-is_empty-clause-first c = first (goal.at.returns-else-is_empty-clause-first c).After-is_empty

pub returns-else-is_empty-clause-contested : goal.returns-else-is_empty-clause-contested
returns-else-is_empty-clause-contested c = λ top on.
    let a = (goal.at.returns-else-is_empty-clause-contested c).After-is_empty in
    let seat = c.winner_with_card-winner.result.0 in
    let won = c.winner_with_card-winner.result.1 in
    settled-top _ _ _ _ _ _ (full a) seat (seat_code seat) won (first a) refl c.winner_with_card-winner.ensures.card top (on won c.down_to_place.ensures.itself)
