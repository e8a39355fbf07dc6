-- Claims go round the owners.
use Rattle.std.proofs.Common.{◌≡◌, ℕ, ◌<◌, Bool, true, false, refl, sym, ap, ◌∙◌, arith, List, [], ◌∷◌, max, Some, None, inl, inr}
use Rattle.std.specs.Prelude.{Option, option_map, nat_eq, ◌&&◌, ◌||◌}
use Rattle.std.specs.List.{list_any}
use Rattle.std.proofs.lemmas.Bool.{cases_eq, eqb-true, and_parts}
use Rattle.std.proofs.lemmas.Bool.Decides.{eqb_tells}
use Rattle.std.proofs.lemmas.Option.{same_Some}
use Rattle.dd_book.specs.declared.call.Call.{Call}
use Rattle.dd_book.specs.declared.call.Call.TheVariants as call
use Rattle.dd_book.specs.Jobs.{JobOf, Turn, has_job, has_waiting, is_no_later, next_turn}
use Rattle.dd_book.specs.Calls.{BookOf, after, book_claimed, empty_book, run}
use Rattle.dd_book.specs.Fairness.{ClaimsGoRound, IsPassedOver, is_claim, next_owner, owner_waits}
use Rattle.dd_book.proofs.LastTurns.{IsWithin, Joins, Takes, by-change, last, takes, within-run}
use Rattle.dd_book.proofs.Seats.{any-there, le-tested, one-waiting}
use Rattle.dd_book.proofs.Turns.{due-at}

-- ---- one owner's last turn is later than another's

abbrev IsLater : ℕ → ℕ → BookOf → Type 0
IsLater one other book = last other book < last one book

-- it is after a claim of a part of the one's
later-claimed : (book : BookOf) (worker one other : ℕ) → (one ≡ other → ⊥) → next_owner book ≡ Some one → IsWithin book → IsLater one other (after book (call.Claim worker))
later-claimed book worker one other differ is w = go (next_turn book.jobs) refl
  where
    go : (o : Option Turn) → next_turn book.jobs ≡ o → IsLater one other (book_claimed book worker o)
    go None none = absurd (let e : None ≡ Some one = sym (ap (option_map (λ (u : Turn). u.job.owner)) none) ∙ is in cc)
    go (Some t) some =
        let own : t.job.owner ≡ one = same_Some t.job.owner one (sym (ap (option_map (λ (u : Turn). u.job.owner)) some) ∙ is) in
        let k = takes book worker t some in
        let now = book_claimed book worker (Some t) in
        omega (arith, ap (λ x. last x now) (sym own), k.its, k.others other (λ e. differ (sym own ∙ sym e)), w other)

-- the other has a job, so that a submit leaves its last turn
later-joins : (book now : BookOf) (one other caller : ℕ) → has_job other book.jobs ≡ true → Joins book now caller → IsLater one other book → IsLater one other now
later-joins book now one other caller has j l = elim (eqb_tells caller other) [
  | inl mine ↦
      let none : last other now ≡ max (last other book) 0 = j.lasts other ∙ rw (mine.0, ap (λ o. has_job o book.jobs) mine.1 ∙ has) refl in
      omega (arith, none, j.lasts one, l)
  | inr differ ↦
      let none : last other now ≡ max (last other book) 0 = j.lasts other ∙ rw differ.0 refl in
      omega (arith, none, j.lasts one, l)
]

later-takes : (book now : BookOf) (one other owner : ℕ) → (other ≡ owner → ⊥) → Takes book now owner → IsLater one other book → IsLater one other now
later-takes book now one other owner differ t l = elim (cases_eq one owner) [
  | inl same ↦ omega (arith, ap (λ x. last x now) same, ap (λ x. last x book) same, t.its, t.others other differ, l)
  | inr not ↦ omega (arith, t.others one not, t.others other differ, l)
]

-- and stays so while the other is passed over
later-after : (book : BookOf) (c : Call) (one other : ℕ) → has_job other book.jobs ≡ true → (is_claim c ≡ true → next_owner book ≡ Some other → ⊥) → IsLater one other book → IsLater one other (after book c)
later-after book c one other has passed l = by-change (IsLater one other) book c l
    (λ now r. omega (arith, r.lasts one, r.lasts other, l))
    (λ caller now j. later-joins book now one other caller has j l)
    (λ owner now claims is t. later-takes book now one other owner (λ e. passed claims (is ∙ ap Some (sym e))) t l)

-- ---- so the one is not due while the other waits

-- who waits has a job
waits-has : (jobs : List JobOf) (o : ℕ) → list_any (λ (job : JobOf). nat_eq job.owner o && has_waiting job) jobs ≡ true → has_job o jobs ≡ true
waits-has [] o h = absurd (cc)
waits-has (x ∷ jobs) o h = go (nat_eq x.owner o) (has_waiting x) h (waits-has jobs o)
  where
    go : (a b : Bool) → ((a && b) || list_any (λ (job : JobOf). nat_eq job.owner o && has_waiting job) jobs) ≡ true
        → (list_any (λ (job : JobOf). nat_eq job.owner o && has_waiting job) jobs ≡ true → has_job o jobs ≡ true) → (a || has_job o jobs) ≡ true
    go true b e rest = refl
    go false b e rest = rest e

not-due : (book : BookOf) (one other : ℕ) → IsLater one other book → owner_waits other book ≡ true → next_owner book ≡ Some one → ⊥
not-due book one other later waits is = go (next_turn book.jobs) refl
  where
    go : (o : Option Turn) → next_turn book.jobs ≡ o → ⊥
    go None none = absurd (let e : None ≡ Some one = sym (ap (option_map (λ (u : Turn). u.job.owner)) none) ∙ is in cc)
    go (Some t) some =
        let own : t.job.owner ≡ one = same_Some t.job.owner one (sym (ap (option_map (λ (u : Turn). u.job.owner)) some) ∙ is) in
        let at = due-at book.jobs t some in
        let found = any-there (λ (job : JobOf). nat_eq job.owner other && has_waiting job) book.jobs waits in
        let y = found.1 in
        let tells = and_parts (nat_eq y.0.owner other) (has_waiting y.0) y.2 in
        let le = le-tested _ _ (one-waiting (is_no_later book.jobs t.job) book.jobs found.0 y.0 (and_parts (has_waiting t.job) _ at.2).1 y.1 tells.1) in
        omega (arith, le, later, ap (λ o. last o book) own, ap (λ o. last o book) (eqb-true y.0.owner other tells.0))

round : (cs : List Call) (book : BookOf) (one other : ℕ) → IsLater one other book → IsPassedOver other book cs → next_owner (run book cs) ≡ Some one → ⊥
unfolding run IsPassedOver
round [] book one other later passed is = not-due book one other later passed is
round (c ∷ cs) book one other later passed is =
    round cs (after book c) one other (later-after book c one other (waits-has book.jobs other passed.0) passed.1 later) passed.2 is

pub claims-go_round : ClaimsGoRound
claims-go_round limits first more worker one other differ is passed again =
    let book = run (empty_book limits) first in
    round more (after book (call.Claim worker)) one other
    (later-claimed book worker one other differ is (within-run first (empty_book limits) (λ o. omega arith))) passed again
