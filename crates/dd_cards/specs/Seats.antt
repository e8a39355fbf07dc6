-- To be believed: the seats, their codes, and who sits where.
use Rattle.std.specs.Prelude.{ℕ, zero, suc, Bool}
use Rattle.dd_cards.specs.declared.seat.Seat.{Seat}
use Rattle.dd_cards.specs.declared.seat.Seat.TheVariants.{North, East, South, West}
use Rattle.dd_cards.specs.declared.side.Side.TheVariants.{NorthSouth}
use Rattle.dd_cards.specs.Sides.{is_side}

-- the code of a seat (DDS hand)
abbrev pub seat_code : Seat → ℕ
seat_code North = 0
seat_code East = 1
seat_code South = 2
seat_code West = 3

-- the next seat clockwise
abbrev pub next_seat : Seat → Seat
next_seat North = East
next_seat East = South
next_seat South = West
next_seat West = North

-- the seat that comes k places after it
abbrev pub seat_after : Seat → ℕ → Seat
seat_after seat zero = seat
seat_after seat (suc k) = next_seat (seat_after seat k)

-- is it North or South?
abbrev pub is_north_south : Seat → Bool
is_north_south seat = is_side NorthSouth seat
