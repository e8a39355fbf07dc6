-- The position before the lead, for what second or fourth hand would take from there.
use Rattle.std.specs.Prelude.{◌≡◌, ◌⊎◌, ℕ, List, [], ◌∷◌}
use Rattle.dd_cards.specs.declared.seat.Seat.{Seat}
use Rattle.dd_cards.specs.PlayingCard.{PlayingCard}
use Rattle.dd_cards.specs.Cards.{with_card}
use Rattle.dd_cards.specs.Hands.{with_hand}
use Rattle.dd_cards.specs.Seats.{seat_after}
use Rattle.dd_cards.specs.declared.suit.Suit.{Suit}
use Rattle.dd_cards.specs.Sides.{side_of}
use Rattle.dd_play.specs.Board.{Board, board_of, cards_at}
use Rattle.dd_play.specs.Reach.{TakesBy, reach}

-- the card that was led back in the leader's hand, and this seat to lead in its place
abbrev pub unled : Board → PlayingCard → Seat → Board
unled p c seat = board_of (with_hand p.hands p.first (with_card (cards_at p p.first) c)) p.strain seat []

-- the seat is an opponent of the leader
abbrev pub Opposes : Board → Seat → Type 0
Opposes p seat = (seat ≡ seat_after p.first 1) ⊎ (seat ≡ seat_after p.first 3)

-- One card is on the trick, and this is the position before it was led, with an opponent of the leader to lead in its place.
pub record IsBeforeLead (p : Board) (c : PlayingCard) (before : Board) : Type 0 where
  pub led : p.trick ≡ c ∷ []
  pub seat : Opposes p before.first
  pub was : before ≡ unled p c before.first

-- after each lead of the suit before which this is the position, with an opponent to lead in its place, that opponent's side takes
-- so many tricks, by these cards
abbrev pub TakesAfterLead : List PlayingCard → Board → Suit → ℕ → Type 0
TakesAfterLead cards before suit need = (p : Board) (led : PlayingCard) → IsBeforeLead p led before → led.suit ≡ suit → TakesBy (reach cards) (side_of before.first) p need
