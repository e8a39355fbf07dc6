-- The trick of a card, by the seat that wins it.
use Rattle.std.specs.Prelude.{ℕ, Option, Some, None, if◌then◌else◌}
use Rattle.dd_cards.specs.declared.seat.Seat.{Seat}
use Rattle.dd_cards.specs.declared.side.Side.{Side}
use Rattle.dd_cards.specs.Sides.{is_side}

-- 1 where a trick was completed and a seat of the side won it
abbrev pub side_trick : Side → Option Seat → ℕ
side_trick side None = 0
side_trick side (Some seat) = (if is_side side seat then 1 else 0)
