use Rattle.std.proofs.Common.{ap, ◌∙◌, get_or}
use Rattle.dd_cards.specs.Cards.{without}
use Rattle.dd_relative.proofs.Fourths.{IsFourth, fourth, one-of-suit, settled-one, settled-top}
use Rattle.dd_relative.proofs.placed_trick.PlacedTrick.contested.Goals as goal
use Rattle.dd_relative.proofs.placed_trick.PlacedTrick.contested.Goals.{After-is_empty}

full : (c : After-is_empty) → IsFourth c.self.inside.start.now c.args.self.now (get_or c.self.inside.trick 0 c.index-trick-0.result) (get_or c.self.inside.trick 1 c.index-trick-1.result) (get_or c.self.inside.trick 2 c.index-trick-2.result) c.args.card
full c =
    fourth c.self.inside.start.now c.args.self.now c.self.inside.trick c.self.inside.played c.index-trick-0.result c.index-trick-1.result c.index-trick-2.result c.args.card c.start-start.ensures.relative c.self.invariant.1 c.self.invariant.0
    c.self.invariant.2 c.self.view_is c.requires.turn c.requires.card

pub returns-then-is_empty : goal.returns-then-is_empty
returns-then-is_empty c = λ top on.
    let w = full (goal.at.returns-then-is_empty c).After-is_empty in
    let few = one-of-suit _ _ _ _ _ _ w c.four_cards.result c.without_place-others.result c.one_of_four-won.result c.four_cards.ensures (c.without_place-others.ensures ∙ ap (λ l. without l c.one_of_four-won.result) c.of_suit_at.ensures)
    (c.is_empty.ensures.0 c.if-is_empty.true) in
    settled-one _ _ _ _ _ _ w c.args.winner c.code.result c.one_of_four-won.result c.requires.winner c.code.ensures.value c.one_of_four-won.ensures few top

pub returns-else-is_empty : goal.returns-else-is_empty
returns-else-is_empty c = λ top on.
    let w = full (goal.at.returns-else-is_empty c).After-is_empty in
    settled-top _ _ _ _ _ _ w c.args.winner c.code.result c.one_of_four-won.result c.requires.winner c.code.ensures.value c.one_of_four-won.ensures top (on c.one_of_four-won.result c.down_to_place.ensures.itself)
