-- To be believed: who owns the cards that are left, suit by suit: all that a position's class of alike ones depends on beside strain and leader.
use Rattle.std.specs.Prelude.{List, Option, None, Some, if◌then◌else◌}
use Rattle.std.specs.List.{filter_map}
use Rattle.dd_cards.specs.declared.seat.Seat.{Seat}
use Rattle.dd_cards.specs.declared.seat.Seat.TheVariants.{North, East, South, West}
use Rattle.dd_cards.specs.declared.suit.Suit.{Suit}
use Rattle.dd_cards.specs.PlayingCard.{PlayingCard}
use Rattle.dd_cards.specs.Cards.{has_card, suit_cards}
use Rattle.dd_cards.specs.Hands.{FourHands, hand_of}
use Rattle.dd_play.specs.Board.{Board}

-- the seat whose hand has the card; None where no hand has it
unfoldable pub holder : FourHands → PlayingCard → Option Seat
holder hands c =
    (if has_card (hand_of hands North) c then Some North else
    (if has_card (hand_of hands East) c then Some East else
    (if has_card (hand_of hands South) c then Some South else
    (if has_card (hand_of hands West) c then Some West else None))))

-- the holders of the suit's cards that are in some hand, from the highest of these cards down
abbrev pub owners_in : FourHands → Suit → List Seat
owners_in hands u = filter_map (holder hands) (suit_cards u)

-- the owners of a suit at a position
abbrev pub owners : Board → Suit → List Seat
owners p u = owners_in p.hands u
