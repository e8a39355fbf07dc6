-- Bounds of a number of tricks.
use Rattle.std.specs.Prelude.{ℕ, ◌≤◌}
use Rattle.dd_play.specs.declared.interval.Interval.{Interval}

-- the number lies between the bounds, both included
abbrev pub Holds : Interval → ℕ → Type 0
Holds i n = (i.lo ≤ n) × (n ≤ i.hi)
