-- What stands when all bids up to one were offered to all seats, in the order in which they count.
use Rattle.std.specs.Prelude.{ℕ, zero, suc, List, [], ◌∷◌, ℤ, pos}
use Rattle.dd_cards.specs.declared.seat.Seat.{Seat}
use Rattle.dd_cards.specs.Sides.{side_of}
use Rattle.dd_score.specs.declared.order.Order.{Order}
use Rattle.dd_score.specs.declared.vulnerable.Vulnerable.{Vulnerable}
use Rattle.dd_score.specs.Orders.{asked}
use Rattle.dd_score.specs.Values.{better}
use Rattle.dd_score.specs.Worths.{worth}

-- a bid offered to these seats, the last of them first: each takes it where its side gains by it
abbrev pub offered : List (List ℕ) → Vulnerable → ℕ → List Seat → ℤ → ℤ
offered table vulnerable k [] x = x
offered table vulnerable k (seat ∷ seats) x = better (side_of seat) (worth table vulnerable k seat) (offered table vulnerable k seats x)

-- the bids 1 to k offered in turn
unfoldable pub stands : List (List ℕ) → Vulnerable → Order → ℕ → ℤ
stands table vulnerable order zero = pos 0
stands table vulnerable order (suc k) = offered table vulnerable (suc k) (asked order) (stands table vulnerable order k)
