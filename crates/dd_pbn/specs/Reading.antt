-- To be believed: reading a deal from left to right: what is seen, and the text after it. None where the text has not the form.
use Rattle.std.specs.Prelude.{◌≡◌, ℕ, ◌==◌, ◌||◌, Bool, true, false, List, [], ◌∷◌, length, find, Option, Some, None, Result, Ok, Err, if◌then◌else◌}
use Rattle.std.specs.Char.{to_ascii_uppercase}
use mathlib.Core.Bool.{not}
use Rattle.dd_cards.specs.declared.seat.Seat.{Seat}
use Rattle.dd_cards.specs.declared.seat.Seat.TheVariants.{North, East, South, West}
use Rattle.dd_cards.specs.declared.suit.Suit.{Suit}
use Rattle.dd_cards.specs.declared.suit.Suit.TheVariants.{Spades, Hearts, Diamonds, Clubs}
use Rattle.dd_cards.specs.PlayingCard.{PlayingCard}
use Rattle.dd_cards.specs.Seats.{next_seat}
use Rattle.dd_cards.specs.Cards.{card_of, has_card, with_card}
use Rattle.dd_cards.specs.Hands.{FourHands, dealt, hand_of, with_hand}
use Rattle.dd_pbn.specs.declared.fault.PbnFault.{PbnFault}
use Rattle.dd_pbn.specs.declared.fault.PbnFault.TheVariants.{Grammar, Absent, Twice}
use Rattle.dd_pbn.specs.declared.hands_so_far.HandsSoFar.{HandsSoFar}
use Rattle.dd_pbn.specs.Letters.{seat_letter, rank_of, is_blank}

-- one step of reading, and the next where the first did not fail
infixl 10 ◌>>=◌
abbrev pub ◌>>=◌ : {A B : Type 0} → Option A → (A → Option B) → Option B
None >>= f = None
(Some x) >>= f = f x

-- what a function returned, seen by view, is what reading gives
abbrev pub Gives : {X Y : Type 0} → (X → Y) → Option X → Option Y → Type 0
Gives view None read = read ≡ None
Gives view (Some x) read = read ≡ Some (view x)

-- ---- what is seen
-- nothing yet
abbrev pub nothing : HandsSoFar
nothing = record { hands = dealt [] [] [] []; absent = false; twice = false }

-- is the card in no hand?
abbrev pub is_free : FourHands → PlayingCard → Bool
is_free hands card =
    not (has_card (hand_of hands North) card || has_card (hand_of hands East) card || has_card (hand_of hands South) card || has_card (hand_of hands West) card)

-- one more card: it is put into the hand, or seen twice
abbrev pub note : Seat → PlayingCard → HandsSoFar → HandsSoFar
note seat card seen =
    (if is_free seen.hands card
    then record { hands = with_hand seen.hands seat (with_card (hand_of seen.hands seat) card); absent = seen.absent; twice = seen.twice }
    else record { hands = seen.hands; absent = seen.absent; twice = true })

-- a hand is left out
abbrev pub leave_out : HandsSoFar → HandsSoFar
leave_out seen = record { hands = seen.hands; absent = true; twice = seen.twice }

-- the deal, or why there is none
abbrev pub outcome : Option HandsSoFar → Result FourHands PbnFault
outcome None = Err Grammar
outcome (Some seen) = (if seen.absent then Err Absent else if seen.twice then Err Twice else Ok seen.hands)

-- ---- reading
-- the text after its blanks
unfoldable pub after_blanks : List ℕ → List ℕ
after_blanks [] = []
after_blanks (byte ∷ text) = (if is_blank byte then after_blanks text else byte ∷ text)

-- the text after one or more blanks
unfoldable pub gap_at : List ℕ → Option (List ℕ)
gap_at [] = None
gap_at (byte ∷ text) = (if is_blank byte then Some (after_blanks text) else None)

-- the text after this byte
unfoldable pub byte_at : ℕ → List ℕ → Option (List ℕ)
byte_at byte [] = None
byte_at byte (first ∷ text) = (if first == byte then Some text else None)

-- the text after this letter, in either case
unfoldable pub letter_at : ℕ → List ℕ → Option (List ℕ)
letter_at letter [] = None
letter_at letter (first ∷ text) = (if to_ascii_uppercase first == letter then Some text else None)

-- nothing is left
unfoldable pub at_end : List ℕ → Bool
at_end text = length text == 0

-- the seat that a byte stands for, in either case
unfoldable pub seat_of : ℕ → Option Seat
seat_of byte = find (λ seat. seat_letter seat == to_ascii_uppercase byte) (North ∷ East ∷ South ∷ West ∷ [])

-- the letter of a seat
unfoldable pub seat_at : List ℕ → Option (Seat × List ℕ)
seat_at [] = None
seat_at (byte ∷ text) = seat_of byte >>= (λ seat. Some (seat, text))

-- the letters of a suit, up to the first byte that is none
unfoldable pub suit_at : Seat → Suit → HandsSoFar → List ℕ → HandsSoFar × List ℕ
suit_at seat suit seen [] = (seen, [])
suit_at seat suit seen (byte ∷ text) =
    elim (rank_of byte) [
      | None ↦ (seen, byte ∷ text)
      | Some rank ↦ suit_at seat suit (note seat (card_of suit rank) seen) text
    ]

-- a point, and the suit after it
unfoldable pub next_suit : Seat → Suit → HandsSoFar × List ℕ → Option (HandsSoFar × List ℕ)
next_suit seat suit read = do
  text ← byte_at 46 read.1
  Some (suit_at seat suit read.0 text)

-- four suits with a point between each two, or a dash
unfoldable pub hand_at : Seat → HandsSoFar → List ℕ → Option (HandsSoFar × List ℕ)
hand_at seat seen text =
    elim (byte_at 45 text) [
      | Some rest ↦ Some (leave_out seen, rest)
      | None ↦ do
        hearts ← next_suit seat Hearts (suit_at seat Spades seen text)
        diamonds ← next_suit seat Diamonds hearts
        next_suit seat Clubs diamonds
    ]

-- one or more blanks, and the hand after them
unfoldable pub next_hand : Seat → HandsSoFar × List ℕ → Option (HandsSoFar × List ℕ)
next_hand seat read = do
  text ← gap_at read.1
  hand_at seat read.0 text

-- four hands, from this seat clockwise, with one or more blanks between each two
unfoldable pub hands_at : Seat → List ℕ → Option (HandsSoFar × List ℕ)
hands_at first text =
    hand_at first nothing text >>= next_hand (next_seat first) >>= next_hand (next_seat (next_seat first)) >>= next_hand (next_seat (next_seat (next_seat first)))

-- a value, from its first blanks to its last
unfoldable pub value_at : List ℕ → Option (HandsSoFar × List ℕ)
value_at text = do
  first ← seat_at (after_blanks text)
  rest ← byte_at 58 first.1
  hands ← hands_at first.0 (after_blanks rest)
  Some (hands.0, after_blanks hands.1)

-- a value and nothing after it
unfoldable pub value_of : List ℕ → Option HandsSoFar
value_of text = do
  value ← value_at text
  if at_end value.1 then Some value.0 else None

-- the name Deal, in either case
unfoldable pub name_at : List ℕ → Option (List ℕ)
name_at text = letter_at 68 text >>= letter_at 69 >>= letter_at 65 >>= letter_at 76

-- a value in quotes
unfoldable pub quoted_at : List ℕ → Option (HandsSoFar × List ℕ)
quoted_at text = do
  inner ← byte_at 34 text
  value ← value_at inner
  rest ← byte_at 34 value.1
  Some (value.0, rest)

-- a tag and nothing after it
unfoldable pub tag_of : List ℕ → Option HandsSoFar
tag_of text = do
  bracket ← byte_at 91 (after_blanks text)
  name ← name_at (after_blanks bracket)
  value ← quoted_at (after_blanks name)
  rest ← byte_at 93 (after_blanks value.1)
  if at_end (after_blanks rest) then Some value.0 else None
