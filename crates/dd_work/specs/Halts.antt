-- How a search within a budget may end without an answer.
use Rattle.std.specs.Prelude.{ℕ, Option}
use Rattle.dd_bounds.specs.Spent.{IsSpent}
use Rattle.dd_bounds.specs.declared.meter.Halt.{Halt}
use Rattle.dd_bounds.specs.declared.meter.Halt.TheVariants.{Spent, Stopped}

-- spent where the budget was; or stopped
abbrev pub MayHalt : Option ℕ → Halt → Type 0
MayHalt budget Spent = IsSpent budget
MayHalt budget Stopped = Unit {0}
