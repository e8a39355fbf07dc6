use Rattle.std.proofs.Common.{◌≡◌, ◌<◌, ◌+◌, ◌-◌, ℕ, true, false, cond, length, Some, refl, sym, ap, ◌∙◌, arith}
use Rattle.std.proofs.lemmas.Option.{same_Some, slice_get_read}
use Rattle.dd_desk.specs.Reserve.{is_told}
use Rattle.dd_desk.proofs.Untold.{untold-some}
use Rattle.dd_desk.proofs.history.History.untold_but.Goals as goal
use Rattle.dd_desk.proofs.history.History.untold_but.Goals.{After-index}

-- the flag of the job says what the journal tells
flag : (c : After-index) → c.index.result.now ≡ is_told c.args.job c.args.self.now.journal.items
flag c =
    let self = c.args.self.now in
    let within : c.args.job - 1 < length self.told.items = omega (arith, c.requires.0, c.requires.1, self.flags.length_is) in
    let there : c.args.job - 1 < length self.book.jobs = omega (arith, c.requires.0, c.requires.1) in
    let here = slice_get_read self.told.items _ _ _ refl within c.index.ensures in
    let which : c.args.job - 1 + 1 ≡ c.args.job = omega (arith, c.requires.0) in
    same_Some _ _ (sym here ∙ self.flags.at (c.args.job - 1) there ∙ ap (λ k. Some (is_told k self.journal.items)) which)

pub overflow_sub-result : goal.overflow_sub-result
overflow_sub-result c =
    let self = c.args.self.now in
    let none : is_told c.args.job self.journal.items ≡ false = sym (flag (goal.at.overflow_sub-result c).After-index) ∙ c.if-index.false in
    omega (arith, self.counts.untold, untold-some (length self.book.jobs) c.args.job self.journal.items c.requires.0 c.requires.1 none)

pub returns-then-index : goal.returns-then-index
returns-then-index c =
    let self = c.args.self.now in
    let told : is_told c.args.job self.journal.items ≡ true = sym (flag (goal.at.returns-then-index c).After-index) ∙ c.if-index.true in
    let none : ◌≡◌ {A = ℕ} (cond (is_told c.args.job self.journal.items) 0 1) 0 = ap {B = ℕ} (λ b. cond b 0 1) told in
    omega (arith, self.counts.untold, none)

pub returns-else-index : goal.returns-else-index
returns-else-index c =
    let self = c.args.self.now in
    let none : is_told c.args.job self.journal.items ≡ false = sym (flag (goal.at.returns-else-index c).After-index) ∙ c.if-index.false in
    let one : ◌≡◌ {A = ℕ} (cond (is_told c.args.job self.journal.items) 0 1) 1 = ap {B = ℕ} (λ b. cond b 0 1) none in
    omega (arith, self.counts.untold, one, untold-some (length self.book.jobs) c.args.job self.journal.items c.requires.0 c.requires.1 none)
