-- To be believed: whether hands are the same: tests on plain lists of cards. That each test is an equivalence stands below.
use Rattle.std.specs.Prelude.{◌&&◌, Bool, List}
use Rattle.std.specs.Cmp.{IsEquivalence, IsPartialEquivalence, and_equiv, nat_eq_equiv, on_equiv, partial_equiv_from_equiv}
use Rattle.std.specs.Cmp.Lexicographic.{lists_equiv, pointwise}
use Rattle.dd_cards.specs.PlayingCard.{PlayingCard}
use Rattle.dd_cards.specs.Suits.{suit_code}
use Rattle.dd_cards.specs.Cards.{same_card}
use Rattle.dd_cards.specs.Hands.{FourHands}

-- the same cards in the same order
abbrev pub same_cards : List PlayingCard → List PlayingCard → Bool
same_cards = pointwise same_card

-- the same cards in each hand
abbrev pub same_hands : FourHands → FourHands → Bool
same_hands a b =
    same_cards a.north b.north && same_cards a.east b.east && same_cards a.south b.south
    && same_cards a.west b.west

-- ---- what is the same by a test is an equivalence

pub same-card : IsEquivalence same_card
same-card = and_equiv (on_equiv (λ (c : PlayingCard). suit_code c.suit) nat_eq_equiv) (on_equiv (λ (c : PlayingCard). c.rank) nat_eq_equiv)

pub same-cards : IsEquivalence same_cards
same-cards = lists_equiv same-card

pub same-hands : IsEquivalence same_hands
same-hands =
    and_equiv (and_equiv (and_equiv (on_equiv (λ (h : FourHands). h.north) same-cards) (on_equiv (λ (h : FourHands). h.east) same-cards))
    (on_equiv (λ (h : FourHands). h.south) same-cards)) (on_equiv (λ (h : FourHands). h.west) same-cards)

-- .. and so a partial one
pub same-hands-partial : IsPartialEquivalence same_hands
same-hands-partial = partial_equiv_from_equiv same-hands
