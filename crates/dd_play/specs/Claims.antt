-- What a bound or a search claims of a position.
use Rattle.std.specs.Prelude.{ℕ, ◌≤◌}
use Rattle.dd_play.specs.Board.{Board}
use Rattle.dd_play.specs.Won.{won}
use Rattle.dd_cards.specs.declared.side.Side.{Side}

-- the side takes at least n of the tricks that are left
abbrev pub Takes : Side → Board → ℕ → Type 0
Takes side p n = n ≤ won side p
