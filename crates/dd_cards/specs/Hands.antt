-- To be believed: four hands, each the list of its cards in the order of the deck.
use Rattle.std.specs.Prelude.{◌≡◌, ◌||◌, ℕ, Bool, true, List, length, filter}
use Rattle.dd_cards.specs.declared.seat.Seat.{Seat}
use Rattle.dd_cards.specs.declared.seat.Seat.TheVariants.{North, East, South, West}
use Rattle.dd_cards.specs.PlayingCard.{PlayingCard}
use Rattle.dd_cards.specs.Seats.{seat_after}
use Rattle.dd_cards.specs.Cards.{deck, has_card, same_card, without}

-- the cards of each seat
pub record FourHands : Type 0 where
  pub north : List PlayingCard
  pub east : List PlayingCard
  pub south : List PlayingCard
  pub west : List PlayingCard

-- the hands of North, East, South and West
abbrev pub dealt : List PlayingCard → List PlayingCard → List PlayingCard → List PlayingCard → FourHands
dealt north east south west = record { north = north; east = east; south = south; west = west }

-- the cards of a seat
abbrev pub hand_of : FourHands → Seat → List PlayingCard
hand_of hands North = hands.north
hand_of hands East = hands.east
hand_of hands South = hands.south
hand_of hands West = hands.west

-- the same hands, with these cards at this seat
abbrev pub with_hand : FourHands → Seat → List PlayingCard → FourHands
with_hand hands North cards = record hands { north = cards }
with_hand hands East cards = record hands { east = cards }
with_hand hands South cards = record hands { south = cards }
with_hand hands West cards = record hands { west = cards }

-- the same hands, with c in none of them
abbrev pub hands_without : FourHands → PlayingCard → FourHands
hands_without hands c = dealt (without hands.north c) (without hands.east c) (without hands.south c) (without hands.west c)

-- no card stands in two hands
abbrev pub AreDisjoint : FourHands → Type 0
AreDisjoint hands = (c : PlayingCard) (s t : Seat) → has_card (hand_of hands s) c ≡ true → has_card (hand_of hands t) c ≡ true → s ≡ t

-- how often a card stands in a list
abbrev pub times : List PlayingCard → PlayingCard → ℕ
times cards c = length (filter (λ d. same_card d c) cards)

-- a set of cards, as the list of its cards in the order of the deck
abbrev pub IsSet : List PlayingCard → Type 0
IsSet cards = filter (has_card cards) deck ≡ cards

-- each hand is a set of cards, and no card is in two of them
pub record AreHands (hands : FourHands) : Type 0 where
  pub sets : (s : Seat) → IsSet (hand_of hands s)
  pub disjoint : AreDisjoint hands
