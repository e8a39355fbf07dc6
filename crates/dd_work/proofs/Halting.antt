-- A search ends within its budget, or is stopped: what its meter may have said, as its budget has it.
use Rattle.std.proofs.Common.{rules, ◌≡◌, ◌⊎◌, ℕ, inl, inr, ap, sym, subst, refl, Option, None, Some}
use Rattle.std.specs.Prelude.{IfErr, Result, Ok, Err}
use Rattle.dd_bounds.specs.Budgets.{CountedTicks, EndsAs, last_tick}
use Rattle.dd_bounds.specs.Spent.{IsSpent, WasSpent}
use Rattle.dd_bounds.specs.declared.meter.Halt.{Halt}
use Rattle.dd_bounds.specs.declared.meter.Halt.TheVariants.{Spent, Stopped}
use Rattle.dd_bounds.specs.declared.meter.Tick.{Tick}
use Rattle.dd_bounds.specs.declared.meter.Tick.TheVariants as tick
use Rattle.dd_work.specs.Halts.{MayHalt}

-- a meter round a budget may say this
abbrev SaysWithin : CountedTicks → Tick → Type 0
SaysWithin b said = (said ≡ tick.Stop) ⊎ ((said ≡ tick.Spent → (b.count ≡ b.limit) × WasSpent b.limit) × (said ≡ tick.Stop → ⊥))

-- and one without a budget
abbrev SaysEndless : Tick → Type 0
SaysEndless said = (said ≡ tick.Stop) ⊎ (said ≡ tick.Go)

halt_within : (b : CountedTicks) (halt : Halt) → SaysWithin b (last_tick halt) → MayHalt (Some b.limit) halt
halt_within b Spent (inl stopped) = absurd (search (rules, stopped))
halt_within b Spent (inr says) = (says.0 refl).1
halt_within b Stopped said = tt

halt_endless : (halt : Halt) → SaysEndless (last_tick halt) → MayHalt None halt
halt_endless Spent (inl stopped) = absurd (search (rules, stopped))
halt_endless Spent (inr goes) = absurd (search (rules, goes))
halt_endless Stopped said = tt

pub halts_within : {T : Type 0} (result : Result T Halt) (limit : ℕ) (b : CountedTicks) → EndsAs (SaysWithin b) result → Some b.limit ≡ Some limit
    → IfErr result (MayHalt (Some limit))
halts_within (Ok answer) limit b said same = tt
halts_within (Err halt) limit b said same = subst (λ (budget : Option ℕ). MayHalt budget halt) same (halt_within b halt said)

pub halts_endless : {T : Type 0} (result : Result T Halt) → EndsAs SaysEndless result → IfErr result (MayHalt None)
halts_endless (Ok answer) said = tt
halts_endless (Err halt) said = halt_endless halt said
