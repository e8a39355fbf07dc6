use Rattle.std.proofs.Common.{rules, ◌≡◌, ◌∙◌, ap, sym, arith}
use Rattle.dd_bounds.specs.Budgets.{CountedTicks}
use Rattle.dd_bounds.specs.Spent.{granted-tick, refused-tick}
use Rattle.dd_bounds.proofs.meter.BudgetMeter.tick.Goals as goal

-- All ticks have gone, and one more was asked for.
pub returns-clause-says : goal.returns-clause-says
returns-clause-says c =
    let most = c.self.invariant in
    let inside : c.self.inside.count ≡ c.self.inside.limit = omega (arith, c.if-self.false, most) in
    let gone : c.args.self.now.count ≡ c.args.self.now.limit =
    sym (ap (λ (b : CountedTicks). b.count) c.self.view_is) ∙ inside ∙ ap (λ (b : CountedTicks). b.limit) c.self.view_is in
    ((λ told. (gone, refused-tick c.args.self.now.limit c.args.self.now.count gone)), search rules)

-- Fewer than all have gone, and one more goes.
pub returns-then-self-clause-went : goal.returns-then-self-clause-went
returns-then-self-clause-went c =
    let before = c.args.self.now in
    let limit = sym (ap (λ (b : CountedTicks). b.limit) c.self.view_is) in
    let count = sym (ap (λ (b : CountedTicks). b.count) c.self.view_is) in
    let fewer = c.if-self.true in
    λ goes. (limit, omega (arith, count), granted-tick before.limit before.count (omega (arith, fewer, count, limit)))
