-- To be believed: the deal that a text means (PBN 2.1, tag Deal).
use Rattle.std.specs.Prelude.{◌≡◌, ℕ, ◌≤◌, ◌||◌, Bool, true, false, IsTrue, IsFalse, List, [], ◌∷◌, ◌++◌, map, filter, filter_map, codes}
use Rattle.std.specs.List.{join_with_byte}
use Rattle.dd_cards.specs.declared.seat.Seat.TheVariants.{North, East, South, West}
use Rattle.dd_cards.specs.declared.suit.Suit.{Suit}
use Rattle.dd_cards.specs.declared.suit.Suit.TheVariants.{Spades, Hearts, Diamonds, Clubs}
use Rattle.dd_cards.specs.PlayingCard.{PlayingCard}
use Rattle.dd_cards.specs.Seats.{seat_after}
use Rattle.dd_cards.specs.Cards.{card_of, is_of, has_card}
use Rattle.dd_cards.specs.Hands.{FourHands, hand_of, times}
use Rattle.dd_pbn.specs.declared.fault.PbnFault.{PbnFault}
use Rattle.dd_pbn.specs.declared.fault.PbnFault.TheVariants.{Grammar, Absent, Twice}
use Rattle.dd_pbn.specs.Letters.{letter_of, rank_of}
use Rattle.dd_pbn.specs.Values.{HandText, suits, dash, Value, IsValue, IsTag}

-- the cards that letters of a suit spell, as they are written
abbrev pub cards_of_suit : Suit → List ℕ → List PlayingCard
cards_of_suit suit letters = map (card_of suit) (filter_map rank_of letters)

-- the cards that a hand spells
abbrev pub cards_of_hand : HandText → List PlayingCard
cards_of_hand (suits spades hearts diamonds clubs) = cards_of_suit Spades spades ++ cards_of_suit Hearts hearts ++ cards_of_suit Diamonds diamonds ++ cards_of_suit Clubs clubs
cards_of_hand dash = []

-- all cards that a value spells
abbrev pub cards_of_value : Value → List PlayingCard
cards_of_value value = cards_of_hand value.hand1 ++ cards_of_hand value.hand2 ++ cards_of_hand value.hand3 ++ cards_of_hand value.hand4

-- is the hand left out?
abbrev pub is_dash : HandText → Bool
is_dash (suits spades hearts diamonds clubs) = false
is_dash dash = true

-- is a hand left out?
abbrev pub leaves_out : Value → Bool
leaves_out value = is_dash value.hand1 || is_dash value.hand2 || is_dash value.hand3 || is_dash value.hand4

-- the hand has just the cards that are written
abbrev pub Holds : List PlayingCard → HandText → Type 0
Holds cards hand = (card : PlayingCard) → has_card cards card ≡ has_card (cards_of_hand hand) card

-- no hand is left out, no card stands twice, and each seat, from the first one clockwise, has just the cards written for it
pub record Spells (value : Value) (deal : FourHands) : Type 0 where
  pub whole : IsFalse (leaves_out value)
  pub once : (card : PlayingCard) → times (cards_of_value value) card ≤ 1
  pub holds1 : Holds (hand_of deal value.first) value.hand1
  pub holds2 : Holds (hand_of deal (seat_after value.first 1)) value.hand2
  pub holds3 : Holds (hand_of deal (seat_after value.first 2)) value.hand3
  pub holds4 : Holds (hand_of deal (seat_after value.first 3)) value.hand4

-- why no deal is spelled, for values of a form: no value is of it; a hand is left out; no hand is, and a card stands twice
abbrev pub Fails : (Value → Type 0) → PbnFault → Type 0
Fails Form Grammar = (value : Value) → Form value → ⊥
Fails Form Absent = (value : Value) × Form value × IsTrue (leaves_out value)
Fails Form Twice = (value : Value) × Form value × IsFalse (leaves_out value) × (card : PlayingCard) × (2 ≤ times (cards_of_value value) card)

-- the text, as a value, spells this deal
abbrev pub DealText : List ℕ → FourHands → Type 0
DealText text deal = (value : Value) × IsValue text value × Spells value deal

-- the text, as a value, spells no deal, and this is why
abbrev pub DealFault : List ℕ → PbnFault → Type 0
DealFault text fault = Fails (IsValue text) fault

-- the text, as a tag, spells this deal
abbrev pub TagText : List ℕ → FourHands → Type 0
TagText text deal = (value : Value) × IsTag text value × Spells value deal

-- the tag spells no deal, and this is why
abbrev pub TagFault : List ℕ → PbnFault → Type 0
TagFault text fault = Fails (IsTag text) fault

-- ---- the form that is written
-- the letters of a hand's cards of one suit, ranks falling
abbrev pub suit_text : List PlayingCard → Suit → List ℕ
suit_text cards suit = map (λ c. letter_of c.rank) (filter (is_of suit) cards)

-- spades, hearts, diamonds and clubs, with a point between each two
abbrev pub hand_text : List PlayingCard → List ℕ
hand_text cards = join_with_byte 46 (map (suit_text cards) (Spades ∷ Hearts ∷ Diamonds ∷ Clubs ∷ []))

-- N, a colon, and the hands of North, East, South and West with a space between each two
abbrev pub text_of_deal : FourHands → List ℕ
text_of_deal hands = codes "N:" ++ join_with_byte 32 (hand_text hands.north ∷ hand_text hands.east ∷ hand_text hands.south ∷ hand_text hands.west ∷ [])
