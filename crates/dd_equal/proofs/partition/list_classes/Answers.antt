use Rattle.std.proofs.Common.{ap, ◌∙◌, arith, length}
use Rattle.std.specs.Prelude.{filter}
use Rattle.dd_cards.specs.declared.suit.Suit.TheVariants.{Spades, Hearts, Diamonds, Clubs}
use Rattle.dd_cards.specs.Cards.{is_of}
use Rattle.dd_equal.proofs.Suits.{classes-by-suit, length-suits}
use Rattle.dd_equal.proofs.partition.list_classes.Goals as goal

pub push_suit-requires-clause-room : goal.push_suit-requires-clause-room
push_suit-requires-clause-room c =
    let all = length-suits c.args.position.now c.choices-choices.ensures.board in
    let few = c.choices-choices.ensures.bound in
    let same = ap length c.choices-choices.ensures.cards in
    let none = ap length c.requires in
    omega arith

pub push_suit-requires-2-clause-room : goal.push_suit-requires-2-clause-room
push_suit-requires-2-clause-room c =
    let all = length-suits c.args.position.now c.choices-choices.ensures.board in
    let few = c.choices-choices.ensures.bound in
    let same = ap length c.choices-choices.ensures.cards in
    let none = ap length c.requires in
    let one = c.push_suit.ensures.len in
    omega arith

pub push_suit-requires-3-clause-room : goal.push_suit-requires-3-clause-room
push_suit-requires-3-clause-room c =
    let all = length-suits c.args.position.now c.choices-choices.ensures.board in
    let few = c.choices-choices.ensures.bound in
    let same = ap length c.choices-choices.ensures.cards in
    let none = ap length c.requires in
    let one = c.push_suit.ensures.len in
    let two = c.push_suit-2.ensures.len in
    omega arith

pub push_suit-requires-4-clause-room : goal.push_suit-requires-4-clause-room
push_suit-requires-4-clause-room c =
    let all = length-suits c.args.position.now c.choices-choices.ensures.board in
    let few = c.choices-choices.ensures.bound in
    let same = ap length c.choices-choices.ensures.cards in
    let none = ap length c.requires in
    let one = c.push_suit.ensures.len in
    let two = c.push_suit-2.ensures.len in
    let three = c.push_suit-3.ensures.len in
    omega arith

pub push_suit-requires-clause-own : goal.push_suit-requires-clause-own
push_suit-requires-clause-own c = c.holding.ensures.ranks ∙ ap (filter (is_of Spades)) c.choices-choices.ensures.cards

pub push_suit-requires-2-clause-own : goal.push_suit-requires-2-clause-own
push_suit-requires-2-clause-own c = c.holding-2.ensures.ranks ∙ ap (filter (is_of Hearts)) c.choices-choices.ensures.cards

pub push_suit-requires-3-clause-own : goal.push_suit-requires-3-clause-own
push_suit-requires-3-clause-own c = c.holding-3.ensures.ranks ∙ ap (filter (is_of Diamonds)) c.choices-choices.ensures.cards

pub push_suit-requires-4-clause-own : goal.push_suit-requires-4-clause-own
push_suit-requires-4-clause-own c = c.holding-4.ensures.ranks ∙ ap (filter (is_of Clubs)) c.choices-choices.ensures.cards

pub returns : goal.returns
returns c =
    classes-by-suit c.args.position.now c.choices-choices.ensures.board _ _ _ _ _ c.requires c.push_suit.ensures.items c.push_suit-2.ensures.items c.push_suit-3.ensures.items c.push_suit-4.ensures.items
