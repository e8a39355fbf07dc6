-- To be believed: two sides, each of two partners.
use Rattle.std.specs.Prelude.{Bool, true, false}
use Rattle.dd_cards.specs.declared.seat.Seat.{Seat}
use Rattle.dd_cards.specs.declared.seat.Seat.TheVariants.{North, East, South, West}
use Rattle.dd_cards.specs.declared.side.Side.{Side}
use Rattle.dd_cards.specs.declared.side.Side.TheVariants.{NorthSouth, EastWest}

-- the side of a seat
abbrev pub side_of : Seat → Side
side_of North = NorthSouth
side_of East = EastWest
side_of South = NorthSouth
side_of West = EastWest

-- the opponents' side
abbrev pub other_side : Side → Side
other_side NorthSouth = EastWest
other_side EastWest = NorthSouth

-- are they one side?
abbrev pub same_side : Side → Side → Bool
same_side NorthSouth NorthSouth = true
same_side NorthSouth EastWest = false
same_side EastWest NorthSouth = false
same_side EastWest EastWest = true

-- does the seat play for this side?
abbrev pub is_side : Side → Seat → Bool
is_side side seat = same_side (side_of seat) side
