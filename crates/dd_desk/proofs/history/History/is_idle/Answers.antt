-- Where no part waits and nobody shut, a claim is told that nothing waits.
use Rattle.std.proofs.Common.{◌≡◌, ◌≤◌, ◌∙◌, ℕ, Bool, true, false, refl, ap, sym, arith}
use Rattle.std.specs.Prelude.{MatchBool, ◌==◌}
use Rattle.std.proofs.lemmas.Bool.Decides.{nat_tests}
use Rattle.dd_book.specs.declared.part_counts.PartCounts.{PartCounts}
use Rattle.dd_book.specs.Calls.{BookOf, IsIdle}
use Rattle.dd_book.specs.Counts.{waiting_in}
use Rattle.dd_book.proofs.CallerLemmas.{idle-is, idle-not_waits}
use Rattle.dd_desk.proofs.history.History.is_idle.Goals as goal

by-waiting : (book : BookOf) (waiting : ℕ) → waiting ≡ waiting_in book.jobs → book.shut ≡ false → MatchBool (waiting == 0) (IsIdle book) (IsIdle book → ⊥)
by-waiting book waiting waits open_yet = go (waiting == 0) refl
  where
    go : (b : Bool) → (waiting == 0) ≡ b → MatchBool b (IsIdle book) (IsIdle book → ⊥)
    go true is =
        let none : waiting ≡ 0 = grind (arith, nat_tests) in
        idle-is book (sym waits ∙ none) open_yet
    go false is =
        let some : 1 ≤ waiting = grind (arith, nat_tests) in
        idle-not_waits book (omega (arith, waits, some))

pub returns-then-not-self : goal.returns-then-not-self
returns-then-not-self c =
    let self = c.args.self.now in
    by-waiting self.book self.counted.parts.waiting (ap (λ (p : PartCounts). p.waiting) self.counts.parts) (sym self.counts.shut ∙ c.if-not-self.true)
