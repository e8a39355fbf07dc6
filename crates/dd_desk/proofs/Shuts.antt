-- Passes that have not shut the book, and calls that don't.
use Rattle.std.proofs.Common.{◌≡◌, ℕ, ◌≤◌, arith, ap, ◌∙◌, sym, subst, List, [], ◌∷◌, ◌++◌, false, refl}
use Rattle.std.specs.Prelude.{IsSome, Option}
use Rattle.dd_book.specs.declared.call.Call.{Call}
use Rattle.dd_book.specs.declared.call.Call.TheVariants.{Submit, Claim, Finish, Cancel, Fetch, Shut}
use Rattle.dd_book.specs.Calls.{BookOf, TakesMemory}
use Rattle.dd_desk.specs.Ready.{IsReady}
use Rattle.dd_desk.specs.Receipts.{ReceiptOf, has_shut, is_shut}
use Rattle.std.proofs.lemmas.Bool.{or_parts, or_from}

-- without a shut among receipts and one more, there is none among the first and none is the last
pub no_shut : (rs : List ReceiptOf) (r : ReceiptOf) → has_shut (rs ++ r ∷ []) ≡ false → (has_shut rs ≡ false) × (is_shut r.call ≡ false)
no_shut [] r e = (refl, (or_parts (is_shut r.call) false e).0)
no_shut (x ∷ rs) r e =
    let first = or_parts (is_shut x.call) (has_shut (rs ++ r ∷ [])) e in
    let rest = no_shut rs r first.1 in
    (or_from (is_shut x.call) (has_shut rs) first.0 rest.0, rest.1)

-- a call that takes memory is no shut
pub takes-no-shut : (book : BookOf) (c : Call) → TakesMemory book c → is_shut c ≡ false
takes-no-shut book (Submit caller asked) takes = refl
takes-no-shut book (Claim worker) takes = refl
takes-no-shut book (Finish worker job claim outcome) takes = refl
takes-no-shut book (Cancel caller job) takes = refl
takes-no-shut book (Fetch caller job) takes = refl
takes-no-shut book Shut takes = absurd takes

-- with more room, and the same receipts and blank, a shut has what it needs still
pub ready-still : {E : Type 0} (rs rs' : List ReceiptOf) (n n' room room' m m' space space' : ℕ) (spare spare' : Option E) → rs' ≡ rs → n' ≡ n → room ≤ room' → m' ≡ m → space ≤ space' → spare' ≡ spare
    → (has_shut rs ≡ false → IsReady n room m space spare) → has_shut rs' ≡ false → IsReady n' room' m' space' spare'
ready-still rs rs' n n' room room' m m' space space' spare spare' receipts count more marks longer kept ready none =
    let was = ready (sym (ap has_shut receipts) ∙ none) in (omega (arith, was.0, count, more), omega (arith, was.1, marks, longer), subst IsSome (sym kept) was.2)
