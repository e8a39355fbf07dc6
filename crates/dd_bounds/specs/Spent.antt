-- To be believed: that a budget was spent, and that one was used.
use Rattle.std.specs.Prelude.{◌≡◌, ◌<◌, ℕ, Option, None, Some}

-- A budget of so many ticks was spent: one tick more was asked for when all had gone. The word is closed, so that nothing shows this
-- but `refused-tick`, and the gate sees to it that `Budget::tick` alone calls that, with its own limit and count.
pub WasSpent : ℕ → Type 0
WasSpent limit = Unit {0}

-- where a tick is refused
pub refused-tick : (limit count : ℕ) → count ≡ limit → WasSpent limit
unfolding WasSpent
refused-tick limit count all-gone = tt

-- this is a budget, and it was spent
abbrev pub IsSpent : Option ℕ → Type 0
IsSpent None = ⊥
IsSpent (Some limit) = WasSpent limit

-- A tick of a budget of so many went. The word is closed too, and `Budget::tick` alone calls `granted-tick`, with its own limit and
-- count.
pub WasTicked : ℕ → Type 0
WasTicked limit = Unit {0}

-- where a tick goes
pub granted-tick : (limit count : ℕ) → count < limit → WasTicked limit
unfolding WasTicked
granted-tick limit count left = tt

-- where this is a budget, a tick of one of so many went
abbrev pub IsTicked : Option ℕ → Type 0
IsTicked None = Unit {0}
IsTicked (Some limit) = WasTicked limit
