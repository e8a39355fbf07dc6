-- How long a search goes on: what ends it without an answer, and a limited number of ticks.
use Rattle.std.specs.Prelude.{◌≡◌, ℕ, ◌<◌, Option, Result, IfErr}
use Rattle.std.proofs.Common.{◌∙◌, arith}
use Rattle.dd_bounds.specs.Spent.{WasTicked}
use Rattle.dd_bounds.specs.declared.meter.Tick.{Tick}
use Rattle.dd_bounds.specs.declared.meter.Tick.TheVariants.{Go, Stop, Spent as SpentTick}
use Rattle.dd_bounds.specs.declared.meter.Halt.{Halt}
use Rattle.dd_bounds.specs.declared.meter.Halt.TheVariants.{Spent, Stopped}

-- what a meter said last where a search ended without an answer
abbrev pub last_tick : Halt → Tick
last_tick Spent = SpentTick
last_tick Stopped = Stop

-- An error comes only where the meter, as it stands, may have said so: that the budget is spent, or to stop.
abbrev pub EndsAs : {T : Type 0} → (Tick → Type 0) → Result T Halt → Type 0
EndsAs says result = IfErr result (λ halt. says (last_tick halt))

-- a meter that can say nothing else than to go on
abbrev pub IsEndless : {M : Type 0} → (M → Tick → Type 0) → Type 0
IsEndless {M = M} says = (m : M) (tick : Tick) → says m tick → tick ≡ Go

-- how many ticks may go, and how many have gone
pub record CountedTicks : Type 0 where
  pub limit : ℕ
  pub count : ℕ

-- the second has the first's limit, more of it has gone, and a tick of such a budget went
abbrev pub IsLater : CountedTicks → CountedTicks → Type 0
IsLater a b = (a.limit ≡ b.limit) × (a.count < b.count) × WasTicked a.limit

-- later than later is later
pub later-budget : (a b c : CountedTicks) → IsLater a b → IsLater b c → IsLater a c
later-budget a b c first second = let x = first.1 in let y = second.1 in (first.0 ∙ second.0, omega (arith, x, y), first.2)

-- a meter of this limit has ticked
pub record HasTicked {M : Type 0} (limit : M → Option ℕ) (ticked : M → M → Type 0) (most : Option ℕ) : Type 0 where
  pub before : M
  pub after : M
  pub went : ticked before after
  pub same : limit after ≡ most
