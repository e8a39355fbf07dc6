-- To be believed: who is asked before whom.
use Rattle.std.specs.Prelude.{List, [], ◌∷◌}
use Rattle.dd_cards.specs.declared.seat.Seat.{Seat}
use Rattle.dd_cards.specs.declared.seat.Seat.TheVariants.{North, East, South, West}
use Rattle.dd_cards.specs.declared.side.Side.TheVariants.{NorthSouth, EastWest}
use Rattle.dd_cards.specs.Seats.{seat_after}
use Rattle.dd_score.specs.declared.order.Order.{Order}
use Rattle.dd_score.specs.declared.order.Order.TheVariants.{Dealer, First}

-- the seats, who is asked first standing first
abbrev pub asked : Order → List Seat
asked (Dealer dealer) = dealer ∷ seat_after dealer 1 ∷ seat_after dealer 2 ∷ seat_after dealer 3 ∷ []
asked (First NorthSouth) = North ∷ South ∷ East ∷ West ∷ []
asked (First EastWest) = East ∷ West ∷ South ∷ North ∷ []
