use Rattle.std.proofs.Common.{◌≡◌, ◌<◌, ◌∙◌, Bool, true, false, sym, ap, arith, inl, inr, List, eq-eqb}
use Rattle.std.specs.Prelude.{filter, nat_lt, ◌&&◌}
use mathlib.Core.Bool.{not}
use Rattle.std.proofs.lemmas.Bool.{lt-ltb, and_from}
use Rattle.dd_cards.specs.declared.suit.Suit.{Suit}
use Rattle.dd_cards.specs.PlayingCard.{PlayingCard}
use Rattle.dd_cards.specs.Suits.{suit_code}
use Rattle.dd_cards.specs.Cards.{is_of, same_card, has_card}
use Rattle.dd_cards.proofs.CallerLemmas.{any-filter, same_card-self}
use Rattle.dd_play.specs.Reach.{reach}
use Rattle.dd_search.proofs.Orders.{shorter, kept-told, is-same, is-low, is-of-suit}
use Rattle.dd_search.proofs.Relied.{none-reached, low-reached}
use Rattle.dd_search.proofs.winning_ranks.still_untried.Goals as goal
use Rattle.dd_search.proofs.winning_ranks.still_untried.Goals.{In-None, Then-least-lowest}

-- a card that passes no test is left out
left-out : (f : PlayingCard → Bool) (card : PlayingCard) (old new : List PlayingCard) → new ≡ filter f old → f card ≡ false → has_card old card ≡ true
    → (c : PlayingCard) → has_card new c ≡ true → has_card old c ≡ true
left-out f card old new is out there c has = any-filter _ f old (ap (λ xs. has_card xs c) (sym is) ∙ has)

own-suit : (s : Suit) (card : PlayingCard) → s ≡ card.suit → is_of s card ≡ true
own-suit s card e = eq-eqb (suit_code card.suit) (suit_code s) (ap suit_code (sym e))

-- no card of the suit is reached
none-of : (c : In-None) (d : PlayingCard) → d.suit ≡ c.card.inside.suit → reach c.args.cards d ≡ false
none-of c d s =
    none-reached c.card.inside.suit c.holding.result c.args.cards c.holding.ensures.ranks c.holding.ensures.real (λ q k. let m = c.in-None.ensures q k in let two = c.of.ensures in omega (arith, m, two)) d s

-- none below the floor is
low-of : (c : Then-least-lowest) (d : PlayingCard) → d.suit ≡ c.card.inside.suit → d.rank < c.in-Some.floor → reach c.args.cards d ≡ false
low-of c d s l =
    let two = c.of.ensures in
    low-reached c.card.inside.suit c.holding.result c.args.cards c.in-Some.floor c.holding.ensures.ranks c.holding.ensures.real (λ q k m. c.in-Some.ensures.2 q k (omega (arith, two, m))) d s l

suit-is : (c : In-None) → c.card.inside.suit ≡ c.args.card.suit
suit-is c = ap (λ (d : PlayingCard). d.suit) c.card.view_is

below-floor : (c : Then-least-lowest) → c.args.card.rank < c.in-Some.floor
below-floor c =
    let ranks = ap (λ (d : PlayingCard). d.rank) c.card.view_is in
    let v = c.code-least.ensures.value in
    let w = c.code-lowest.ensures.value in
    let less = c.if-least-lowest.true in
    omega (arith, ranks, v, w, less)

suits-are : (c : Then-least-lowest) → c.card.inside.suit ≡ c.args.card.suit
suits-are c = ap (λ (d : PlayingCard). d.suit) c.card.view_is

falls-below : (c : Then-least-lowest) → not (is_of c.card.inside.suit c.args.card && nat_lt c.args.card.rank c.in-Some.floor) ≡ false
falls-below c = ap not (and_from _ _ (own-suit c.card.inside.suit c.args.card (suits-are c)) (lt-ltb _ _ (below-floor c)))

pub returns-in-None-clause-fewer : goal.returns-in-None-clause-fewer
returns-in-None-clause-fewer c =
    rw (c.without_suit-other_suits.ensures) (shorter (λ d. not (is_of c.card.inside.suit d)) c.args.card (ap not (own-suit c.card.inside.suit c.args.card (suit-is c))) c.args.untried c.requires)

pub returns-in-None-clause-among : goal.returns-in-None-clause-among
returns-in-None-clause-among c =
    left-out (λ d. not (is_of c.card.inside.suit d)) c.args.card c.args.untried c.without_suit-other_suits.result c.without_suit-other_suits.ensures (ap not (own-suit c.card.inside.suit c.args.card (suit-is c))) c.requires

pub returns-in-None-clause-told : goal.returns-in-None-clause-told
returns-in-None-clause-told c =
    kept-told (λ d. not (is_of c.card.inside.suit d)) c.args.untried c.args.card c.args.cards c.without_suit-other_suits.result c.without_suit-other_suits.ensures (λ d e.
    let s : d.suit ≡ c.card.inside.suit = is-of-suit c.card.inside.suit d e in
    inr (s ∙ suit-is c, none-of c d s, none-of c c.args.card (sym (suit-is c))))

pub returns-then-least-lowest-clause-fewer : goal.returns-then-least-lowest-clause-fewer
returns-then-least-lowest-clause-fewer c =
    rw (c.without_below-higher.ensures) (shorter (λ d. not (is_of c.card.inside.suit d && nat_lt d.rank c.in-Some.floor)) c.args.card (falls-below c) c.args.untried c.requires)

pub returns-then-least-lowest-clause-among : goal.returns-then-least-lowest-clause-among
returns-then-least-lowest-clause-among c =
    left-out (λ d. not (is_of c.card.inside.suit d && nat_lt d.rank c.in-Some.floor)) c.args.card c.args.untried c.without_below-higher.result c.without_below-higher.ensures (falls-below c) c.requires

pub returns-then-least-lowest-clause-told : goal.returns-then-least-lowest-clause-told
returns-then-least-lowest-clause-told c =
    kept-told (λ d. not (is_of c.card.inside.suit d && nat_lt d.rank c.in-Some.floor)) c.args.untried c.args.card c.args.cards c.without_below-higher.result c.without_below-higher.ensures (λ d e.
    let low = is-low c.card.inside.suit d c.in-Some.floor e in
    inr (low.0 ∙ suits-are c, low-of c d low.0 low.1, low-of c c.args.card (sym (suits-are c)) (below-floor c)))

pub returns-else-least-lowest-clause-fewer : goal.returns-else-least-lowest-clause-fewer
returns-else-least-lowest-clause-fewer c =
    rw (c.without-others.ensures) (shorter (λ d. not (same_card d c.args.card)) c.args.card (ap not (same_card-self c.args.card)) c.args.untried c.requires)

pub returns-else-least-lowest-clause-among : goal.returns-else-least-lowest-clause-among
returns-else-least-lowest-clause-among c =
    left-out (λ d. not (same_card d c.args.card)) c.args.card c.args.untried c.without-others.result c.without-others.ensures (ap not (same_card-self c.args.card)) c.requires

pub returns-else-least-lowest-clause-told : goal.returns-else-least-lowest-clause-told
returns-else-least-lowest-clause-told c =
    kept-told (λ d. not (same_card d c.args.card)) c.args.untried c.args.card c.args.cards c.without-others.result c.without-others.ensures (λ d e. inl (is-same d c.args.card e))
