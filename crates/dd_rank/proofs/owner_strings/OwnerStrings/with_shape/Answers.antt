use Rattle.std.proofs.Common.{ap, ◌∙◌, arith, sym}
use Rattle.std.specs.Prelude.{filter, ◌||◌}
use mathlib.Core.Path.{ap₂}
use Rattle.dd_cards.specs.declared.suit.Suit.{Suit}
use Rattle.dd_cards.specs.declared.suit.Suit.TheVariants.{Spades, Hearts, Diamonds, Clubs}
use Rattle.dd_cards.specs.Cards.{deck, has_card}
use Rattle.dd_cards.specs.Hands.{dealt, AreHands}
use Rattle.dd_play.specs.Board.{Board}
use Rattle.dd_cards.proofs.CallerLemmas.{lane-valid}
use Rattle.dd_rank.proofs.Masked.{AreMasks, gone-apart, masks-told}
use Rattle.dd_rank.proofs.Seated.{AreSeated, seated-four, shape-strings, suit-owners, taken-seated}
use Rattle.dd_rank.proofs.owner_strings.OwnerStrings.with_shape.Goals as goal
use Rattle.dd_rank.proofs.owner_strings.OwnerStrings.with_shape.Goals.{After-hand-fourth, After-mask-3}

-- the hands that the code takes
taken : (c : After-hand-fourth) → AreSeated c.args.start.now c.hand-leader.result c.hand-second.result c.hand-third.result c.hand-fourth.result
taken c =
    taken-seated c.args.start.now c.hands-hands.result.now c.first-first_seat.result c.next-second_seat.result c.next-third_seat.result c.next-fourth_seat.result
    c.hand-leader.result c.hand-second.result c.hand-third.result c.hand-fourth.result c.hand-leader.ensures.hands
    (c.hands-hands.ensures.hands ∙ ap (λ (b : Board). b.hands) c.position-position.ensures.value) (c.first-first_seat.ensures ∙ ap (λ (b : Board). b.first) c.position-position.ensures.value)
    c.next-second_seat.ensures c.next-third_seat.ensures c.next-fourth_seat.ensures c.hand-leader.ensures.hand c.hand-second.ensures.hand c.hand-third.ensures.hand c.hand-fourth.ensures.hand

-- .. are four hands
four : (c : After-hand-fourth) → AreHands (dealt c.hand-leader.result c.hand-second.result c.hand-third.result c.hand-fourth.result)
four c = seated-four c.args.start.now c.hand-leader.result c.hand-second.result c.hand-third.result c.hand-fourth.result (taken c)

-- the masks that it makes of them
masks : (c : After-mask-3) → AreMasks c.hand-leader.result c.hand-second.result c.hand-third.result c.hand-fourth.result c.mask.result c.mask-2.result c.mask-3.result
masks c = record {
  fits = omega arith;
  odd_masks = λ u. lane-valid c.mask.result u c.mask.ensures.mask;
  far_masks = λ u. lane-valid c.mask-2.result u c.mask-2.ensures.mask;
  odd_is = c.mask.ensures.cards ∙ c.union-odd.ensures.cards;
  far_is = c.mask-2.ensures.cards ∙ c.union-far.ensures.cards;
  left_is = c.mask-3.ensures.cards ∙ c.union-left.ensures.cards
      ∙ ap₂ (λ xs ys. filter (λ d. has_card xs d || has_card ys d) deck) c.union.ensures.cards (sym c.mask.ensures.cards);
}

pub close_up-requires-clause-odd : goal.close_up-requires-clause-odd
close_up-requires-clause-odd c = (masks (goal.at.close_up-requires-clause-odd c).After-mask-3).odd_masks

pub close_up-requires-clause-far : goal.close_up-requires-clause-far
close_up-requires-clause-far c = (masks (goal.at.close_up-requires-clause-far c).After-mask-3).far_masks

pub close_up-requires-clause-apart : goal.close_up-requires-clause-apart
close_up-requires-clause-apart c = gone-apart _ _ _ _ _ _ _ (masks (goal.at.close_up-requires-clause-apart c).After-mask-3)

pub returns : goal.returns
returns c =
    let at = goal.at.returns c in
    let p = c.args.start.now in
    let l = c.hand-leader.result in
    let s = c.hand-second.result in
    let t = c.hand-third.result in
    let f = c.hand-fourth.result in
    let owners = λ (u : Suit). c.close_up.ensures u ∙ masks-told l s t f c.mask.result c.mask-2.result c.mask-3.result (four at.After-hand-fourth) (masks at.After-mask-3) u ∙ suit-owners p l s t f u (taken at.After-hand-fourth) in
    shape-strings p c.args.shape _ _ _ _ c.requires (owners Spades) (owners Hearts) (owners Diamonds) (owners Clubs)
