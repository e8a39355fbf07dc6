-- The seats turned, so that the leader is North.
use Rattle.dd_cards.specs.declared.seat.Seat.{Seat}
use Rattle.dd_cards.specs.Hands.{FourHands, dealt, hand_of}
use Rattle.dd_cards.specs.Seats.{seat_after}
use Rattle.dd_play.specs.Board.{Board, cards_at}
use Rattle.dd_relative.specs.Relative.{led_by_north}

-- the hands from a seat on
abbrev pub from_seat : FourHands → Seat → FourHands
from_seat hands f = dealt (hand_of hands (seat_after f 0)) (hand_of hands (seat_after f 1)) (hand_of hands (seat_after f 2)) (hand_of hands (seat_after f 3))

-- the start of a trick with these hands and strain
abbrev pub from_leader : Board → Board
from_leader p = led_by_north (cards_at p (seat_after p.first 0)) (cards_at p (seat_after p.first 1)) (cards_at p (seat_after p.first 2)) (cards_at p (seat_after p.first 3)) p.strain
