use Rattle.std.proofs.Common.{◌≡◌, ap, ◌∙◌, arith, [], ◌∷◌, get_or}
use Rattle.std.specs.Prelude.{ℕ}
use Rattle.dd_cards.specs.declared.seat.Seat.TheVariants.{North, East, South, West}
use Rattle.dd_cards.specs.declared.suit.Suit.{Suit}
use Rattle.dd_cards.specs.declared.suit.Suit.TheVariants.{Spades, Hearts, Diamonds, Clubs}
use Rattle.dd_cards.specs.Hands.{dealt, AreHands}
use Rattle.dd_play.specs.Board.{Board}
use Rattle.dd_rank.specs.Lanes.{suit_counts}
use Rattle.dd_rank.specs.Strings.{ShapeOf}
use Rattle.dd_rank.proofs.Masked.{AreTogether, all-together, lengths-of}
use Rattle.dd_rank.proofs.Seated.{AreSeated, four-lengths, seated-four, suit-lengths, taken-seated}
use Rattle.dd_rank.proofs.shape.Shape.of.Goals as goal
use Rattle.dd_rank.proofs.shape.Shape.of.Goals.{After-hand-fourth, After-suit_lengths-lengths}

-- the hands that the code takes
taken : (c : After-hand-fourth) → AreSeated c.args.start.now c.hand-leader.result c.hand-second.result c.hand-third.result c.hand-fourth.result
taken c =
    taken-seated c.args.start.now c.hands-hands.result.now c.first-first_seat.result c.next-second_seat.result c.next-third_seat.result c.next-fourth_seat.result
    c.hand-leader.result c.hand-second.result c.hand-third.result c.hand-fourth.result c.hand-leader.ensures.hands
    (c.hands-hands.ensures.hands ∙ ap (λ (b : Board). b.hands) c.position-position.ensures.value) (c.first-first_seat.ensures ∙ ap (λ (b : Board). b.first) c.position-position.ensures.value)
    c.next-second_seat.ensures c.next-third_seat.ensures c.next-fourth_seat.ensures c.hand-leader.ensures.hand c.hand-second.ensures.hand c.hand-third.ensures.hand c.hand-fourth.ensures.hand

-- .. are four hands
four : (c : After-hand-fourth) → AreHands (dealt c.hand-leader.result c.hand-second.result c.hand-third.result c.hand-fourth.result)
four c = seated-four c.args.start.now c.hand-leader.result c.hand-second.result c.hand-third.result c.hand-fourth.result (taken c)

-- the lengths of the four hands, together
together : (c : After-suit_lengths-lengths) → AreHands (dealt c.hand-leader.result c.hand-second.result c.hand-third.result c.hand-fourth.result)
    → AreTogether c.hand-leader.result c.hand-second.result c.hand-third.result c.hand-fourth.result
    (get_or c.suit_lengths-lengths.result 0 0) (get_or c.suit_lengths-lengths.result 1 0) (get_or c.suit_lengths-lengths.result 2 0) (get_or c.suit_lengths-lengths.result 3 0)
together c hands =
    all-together _ _ _ _ _ _ _ _
    (lengths-of c.mask.result _ c.hand-leader.result c.mask.ensures.cards c.mask.ensures.mask (hands.sets North) (at 0))
    (lengths-of c.mask-2.result _ c.hand-second.result c.mask-2.ensures.cards c.mask-2.ensures.mask (hands.sets East) (at 1))
    (lengths-of c.mask-3.result _ c.hand-third.result c.mask-3.ensures.cards c.mask-3.ensures.mask (hands.sets South) (at 2))
    (lengths-of c.mask-4.result _ c.hand-fourth.result c.mask-4.ensures.cards c.mask-4.ensures.mask (hands.sets West) (at 3))
  where
    at : (i : ℕ) → get_or c.suit_lengths-lengths.result i 0 ≡ get_or (suit_counts c.mask.result ∷ suit_counts c.mask-2.result ∷ suit_counts c.mask-3.result ∷ suit_counts c.mask-4.result ∷ []) i 0
    at i = ap (λ l. get_or l i 0) c.suit_lengths-lengths.ensures

pub overflow_mul-result-3 : goal.overflow_mul-result-3
overflow_mul-result-3 c = (let at = goal.at.overflow_mul-result-3 c in let a = (together at.After-suit_lengths-lengths (four at.After-hand-fourth)).last_fits in omega (arith, a))

pub overflow_add-result-3 : goal.overflow_add-result-3
overflow_add-result-3 c = (let at = goal.at.overflow_add-result-3 c in let a = (together at.After-suit_lengths-lengths (four at.After-hand-fourth)).fits in omega (arith, a))

pub returns : goal.returns
returns c =
    let at = goal.at.returns c in
    let suit = λ (u : Suit). suit-lengths c.args.start.now c.hand-leader.result c.hand-second.result c.hand-third.result c.hand-fourth.result u (taken at.After-hand-fourth) in
    ap (λ (n : ℕ). (let r : ShapeOf = record { strain = c.strain.result; lengths = n } in r)) (together at.After-suit_lengths-lengths (four at.After-hand-fourth)).by_suit
    ∙ four-lengths c.args.start.now c.strain.result _ _ _ _ (c.strain.ensures ∙ ap (λ (b : Board). b.strain) c.position-position.ensures.value)
    (suit Spades) (suit Hearts) (suit Diamonds) (suit Clubs)
