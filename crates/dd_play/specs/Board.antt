-- To be believed: a position, on plain sets of cards.
use Rattle.std.specs.Prelude.{◌≡◌, ℕ, ◌+◌, ◌<◌, ◌≤◌, true, List, length, nat_lt, if◌then◌else◌}
use Rattle.dd_cards.specs.declared.seat.Seat.{Seat}
use Rattle.dd_cards.specs.declared.seat.Seat.TheVariants.{North, East, South, West}
use Rattle.dd_cards.specs.declared.strain.Strain.{Strain}
use Rattle.dd_cards.specs.PlayingCard.{PlayingCard}
use Rattle.dd_cards.specs.Ranks.{IsRank}
use Rattle.dd_cards.specs.Seats.{seat_after}
use Rattle.dd_cards.specs.Cards.{has_card}
use Rattle.dd_cards.specs.Hands.{FourHands, hand_of, times, IsSet}

-- four hands; the strain; the seat that leads or led to the current trick; the cards played to it, in order
pub record Board : Type 0 where
  pub hands : FourHands
  pub strain : Strain
  pub first : Seat
  pub trick : List PlayingCard

-- these hands, and these cards on the trick that `first` led to
abbrev pub board_of : FourHands → Strain → Seat → List PlayingCard → Board
board_of hands strain first trick = record { hands = hands; strain = strain; first = first; trick = trick }

abbrev pub cards_at : Board → Seat → List PlayingCard
cards_at p seat = hand_of p.hands seat

-- the hand to play: as many places after the first as cards were played
abbrev pub mover : Board → Seat
mover p = seat_after p.first (length p.trick)

-- the tricks left, the current one included: the number of the mover's cards
abbrev pub tricks_left : Board → ℕ
tricks_left p = length (cards_at p (mover p))

-- the cards in the four hands
abbrev pub cards_left : Board → ℕ
cards_left p = length (cards_at p North) + length (cards_at p East) + length (cards_at p South) + length (cards_at p West)

-- how often a card stands in the four hands
abbrev pub times_in : FourHands → PlayingCard → ℕ
times_in hands c = times (hand_of hands North) c + times (hand_of hands East) c + times (hand_of hands South) c + times (hand_of hands West) c

-- no card stands twice, the trick included
abbrev pub NoneTwice : Board → Type 0
NoneTwice p = (c : PlayingCard) → times_in p.hands c + times p.trick c ≤ 1

-- each hand that has played to the trick holds one card fewer than the mover, and each other hand as many
abbrev pub IsEven : Board → Type 0
IsEven p = (k : ℕ) → k < 4 → length (cards_at p (seat_after p.first k)) + (if nat_lt k (length p.trick) then 1 else 0) ≡ tricks_left p

-- A legal state of play: four sets of cards and at most three cards on the trick, no card twice among them, and each
-- hand that has played to the trick holds one card fewer than the others.
pub record IsBoard (p : Board) : Type 0 where
  pub sets : (s : Seat) → IsSet (cards_at p s)
  pub short : length p.trick ≤ 3
  pub real : (c : PlayingCard) → has_card p.trick c ≡ true → IsRank c.rank
  pub once : NoneTwice p
  pub even : IsEven p
