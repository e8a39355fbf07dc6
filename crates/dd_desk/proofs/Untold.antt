-- Of how many jobs no reply has told that they have ended, one event later.
use Rattle.std.proofs.Common.{◌≡◌, ℕ, zero, suc, ◌+◌, ◌-◌, ◌<◌, ◌≤◌, ◌||◌, ◌&&◌, Bool, true, false, cond, refl, sym, ap, ◌∙◌, subst, arith, add-one, eq-eqb, ne_eqb, List, [], ◌∷◌, ◌++◌, length, Some, inl, inr, nat_eq}
use Rattle.std.specs.Prelude.{slice_get, slice_set}
use Rattle.std.proofs.lemmas.Bool.{cases_eq}
use Rattle.std.proofs.lemmas.List.Folds.{list_any-append}
use Rattle.dd_book.specs.declared.call.JobState.{JobState}
use Rattle.dd_book.specs.declared.call.Reply.{Reply}
use Rattle.dd_book.specs.declared.call.Reply.TheVariants.{Cancelled, State}
use Rattle.dd_desk.specs.Counted.{AreFlags, TellsOfJobs}
use Rattle.dd_desk.specs.Events.{EventOf}
use Rattle.dd_desk.specs.Reserve.{has_ended, is_told, tells_end, untold}
use Rattle.std.proofs.lemmas.List.{length_push}
use Rattle.std.proofs.Math.Bool.{or-false, or-true}
use Rattle.dd_book.proofs.CallerLemmas.{slice_get-push_here}

-- a reply that tells of no job's end
abbrev pub TellsNone : Reply → Type 0
TellsNone reply = (number : ℕ) → tells_end number reply ≡ false

-- a reply that tells of the end of this job, and so of no other's
pub record TellsOne (reply : Reply) (number : ℕ) : Type 0 where
  pub this : tells_end number reply ≡ true
  pub others : (other : ℕ) → (other ≡ number → ⊥) → tells_end other reply ≡ false

pub cancel-tells : (number : ℕ) → TellsOne (Cancelled number) number
cancel-tells number = record {
  this = eq-eqb number number refl;
  others = λ other differ. ne_eqb number other (λ e. differ (sym e));
}

pub state-tells : (number : ℕ) (state : JobState) → has_ended state ≡ true → TellsOne (State number state) number
state-tells number state ended = record {
  this = ap (λ b. b && has_ended state) (eq-eqb number number refl) ∙ ended;
  others = λ other differ. ap (λ b. b && has_ended state) (ne_eqb number other (λ e. differ (sym e)));
}

and-false : (b : Bool) → (b && false) ≡ false
and-false true = refl
and-false false = refl

pub state-tells_none : (number : ℕ) (state : JobState) → has_ended state ≡ false → TellsNone (State number state)
state-tells_none number state goes other = ap (λ b. nat_eq number other && b) goes ∙ and-false (nat_eq number other)

-- ---- one event more

pub told-more : (number : ℕ) (es : List EventOf) (e : EventOf) → is_told number (es ++ e ∷ []) ≡ (is_told number es || tells_end number e.reply)
told-more number es e =
    list_any-append (λ (x : EventOf). tells_end number x.reply) es (e ∷ []) ∙ ap (λ b. is_told number es || b) (or-false (tells_end number e.reply))

pub told-kept : (number : ℕ) (es : List EventOf) (e : EventOf) → tells_end number e.reply ≡ false → is_told number (es ++ e ∷ []) ≡ is_told number es
told-kept number es e none = told-more number es e ∙ ap (λ b. is_told number es || b) none ∙ or-false (is_told number es)

pub told-now : (number : ℕ) (es : List EventOf) (e : EventOf) → tells_end number e.reply ≡ true → is_told number (es ++ e ∷ []) ≡ true
told-now number es e tells = told-more number es e ∙ ap (λ b. is_told number es || b) tells ∙ or-true (is_told number es)

-- ---- how many are left

-- a job more
pub untold-suc : (n : ℕ) (es : List EventOf) → untold (n + 1) es ≡ untold n es + cond (is_told (n + 1) es) 0 1
unfolding untold
untold-suc n es = subst (λ k. untold k es ≡ untold n es + cond (is_told (n + 1) es) 0 1) (sym (add-one n)) refl

-- of none of these jobs the event tells it
pub untold-kept : (n : ℕ) (es : List EventOf) (e : EventOf) → ((number : ℕ) → number ≤ n → tells_end number e.reply ≡ false) → untold n (es ++ e ∷ []) ≡ untold n es
unfolding untold
untold-kept zero es e none = refl
untold-kept (suc n) es e none =
    let rest = untold-kept n es e (λ number le. none number (omega (arith, le))) in
    let here = told-kept (n + 1) es e (none (n + 1) (omega arith)) in
    (λ i. rest i + cond (here i) 0 1)

-- of one of them it tells it
pub untold-told : (n number : ℕ) (es : List EventOf) (e : EventOf) → 1 ≤ number → number ≤ n → TellsOne e.reply number
    → untold n (es ++ e ∷ []) + cond (is_told number es) 0 1 ≡ untold n es
unfolding untold
untold-told zero number es e low high tells = absurd (omega (arith, low, high))
untold-told (suc n) number es e low high tells = elim (cases_eq number (n + 1)) [
  | inl same ↦
      let rest = untold-kept n es e (λ other le. tells.others other (λ is. omega (arith, le, is, same))) in
      let now : is_told (n + 1) (es ++ e ∷ []) ≡ true = told-now (n + 1) es e (ap (λ k. tells_end k e.reply) (sym same) ∙ tells.this) in
      let last : ◌≡◌ {A = ℕ} (cond (is_told (n + 1) (es ++ e ∷ [])) 0 1) 0 = ap {B = ℕ} (λ b. cond b 0 1) now in
      let which : ◌≡◌ {A = ℕ} (cond (is_told number es) 0 1) (cond (is_told (n + 1) es) 0 1) = ap {B = ℕ} (λ k. cond (is_told k es) 0 1) same in
      omega (arith, rest, last, which)
  | inr differ ↦
      let rest = untold-told n number es e low (omega (arith, high, differ)) tells in
      let here : ◌≡◌ {A = ℕ} (cond (is_told (n + 1) (es ++ e ∷ [])) 0 1) (cond (is_told (n + 1) es) 0 1) = ap {B = ℕ} (λ b. cond b 0 1) (told-kept (n + 1) es e (tells.others (n + 1) (λ is. differ (sym is)))) in
      omega (arith, rest, here)
]

-- of one of them no reply has told it
pub untold-some : (n number : ℕ) (es : List EventOf) → 1 ≤ number → number ≤ n → is_told number es ≡ false → 1 ≤ untold n es
unfolding untold
untold-some zero number es low high none = absurd (omega (arith, low, high))
untold-some (suc n) number es low high none = elim (cases_eq number (n + 1)) [
  | inl same ↦
      let here : ◌≡◌ {A = ℕ} (cond (is_told (n + 1) es) 0 1) 1 = ap {B = ℕ} (λ b. cond b 0 1) (ap (λ k. is_told k es) (sym same) ∙ none) in
      omega (arith, here)
  | inr differ ↦ omega (arith, untold-some n number es low (omega (arith, high, differ)) none)
]

-- ---- flags

pub get-set_here : {X : Type 0} (xs : List X) (i : ℕ) (y : X) → i < length xs → slice_get (slice_set xs i y) i ≡ Some y
get-set_here [] i y h = absurd (omega (arith, h))
get-set_here (x ∷ xs) zero y h = refl
get-set_here (x ∷ xs) (suc i) y h = get-set_here xs i y (omega (arith, h))

get-set_other : {X : Type 0} (xs : List X) (i k : ℕ) (y : X) → (k ≡ i → ⊥) → slice_get (slice_set xs i y) k ≡ slice_get xs k
get-set_other [] i k y h = refl
get-set_other (x ∷ xs) zero zero y h = absurd (h refl)
get-set_other (x ∷ xs) zero (suc k) y h = refl
get-set_other (x ∷ xs) (suc i) zero y h = refl
get-set_other (x ∷ xs) (suc i) (suc k) y h = get-set_other xs i k y (λ e. h (ap suc e))

pub get-push_before : {X : Type 0} (xs : List X) (k : ℕ) (y : X) → k < length xs → slice_get (xs ++ y ∷ []) k ≡ slice_get xs k
get-push_before [] k y h = absurd (omega (arith, h))
get-push_before (x ∷ xs) zero y h = refl
get-push_before (x ∷ xs) (suc k) y h = get-push_before xs k y (omega (arith, h))

pub length-set_at : {X : Type 0} (xs : List X) (i : ℕ) (y : X) → length (slice_set xs i y) ≡ length xs
length-set_at [] i y = refl
length-set_at (x ∷ xs) zero y = refl
length-set_at (x ∷ xs) (suc i) y = ap suc (length-set_at xs i y)

-- there is no job
pub flags-none : (flags : List Bool) (jobs : ℕ) (es : List EventOf) → flags ≡ [] → jobs ≡ 0 → AreFlags flags jobs es
flags-none flags jobs es none empty = record {
  length_is = ap length none ∙ sym empty;
  at = λ place within. absurd (omega (arith, within, empty));
}

-- an event that tells of no job's end
pub flags-kept : (flags : List Bool) (jobs : ℕ) (es : List EventOf) (e : EventOf) → TellsNone e.reply → AreFlags flags jobs es → AreFlags flags jobs (es ++ e ∷ [])
flags-kept flags jobs es e none f = record {
  length_is = f.length_is;
  at = λ place within. f.at place within ∙ ap Some (sym (told-kept (place + 1) es e (none (place + 1))));
}

-- one that tells of a new job
pub flags-pushed : (flags : List Bool) (jobs : ℕ) (es : List EventOf) (e : EventOf) → TellsNone e.reply → TellsOfJobs jobs es → AreFlags flags jobs es → AreFlags (flags ++ false ∷ []) (jobs + 1) (es ++ e ∷ [])
flags-pushed flags jobs es e none of_jobs f = record {
  length_is = length_push flags false ∙ ap (λ n. n + 1) f.length_is;
  at = λ place within. elim (cases_eq place jobs) [
    | inl same ↦
        let there : slice_get (flags ++ false ∷ []) place ≡ Some false = ap (slice_get (flags ++ false ∷ [])) (same ∙ sym f.length_is) ∙ slice_get-push_here flags false in
        there ∙ ap Some (sym (told-kept (place + 1) es e (none (place + 1)) ∙ of_jobs (place + 1) (omega (arith, same))))
    | inr differ ↦
        get-push_before flags place false (omega (arith, f.length_is, within, differ)) ∙ f.at place (omega (arith, within, differ))
        ∙ ap Some (sym (told-kept (place + 1) es e (none (place + 1))))
  ];
}

-- one that tells of the end of one
pub flags-told : (flags : List Bool) (jobs number : ℕ) (es : List EventOf) (e : EventOf) → 1 ≤ number → number ≤ jobs → TellsOne e.reply number → AreFlags flags jobs es → AreFlags (slice_set flags (number - 1) true) jobs (es ++ e ∷ [])
flags-told flags jobs number es e low high tells f = record {
  length_is = length-set_at flags (number - 1) true ∙ f.length_is;
  at = λ place within. elim (cases_eq place (number - 1)) [
    | inl same ↦
        let there : slice_get (slice_set flags (number - 1) true) place ≡ Some true = ap (slice_get (slice_set flags (number - 1) true)) same ∙ get-set_here flags (number - 1) true (omega (arith, f.length_is, low, high)) in
        let which : number ≡ place + 1 = omega (arith, same, low) in
        there ∙ ap Some (sym (told-now (place + 1) es e (ap (λ k. tells_end k e.reply) (sym which) ∙ tells.this)))
    | inr differ ↦
        get-set_other flags (number - 1) place true differ ∙ f.at place within
        ∙ ap Some (sym (told-kept (place + 1) es e (tells.others (place + 1) (λ is. differ (omega (arith, is))))))
  ];
}

-- ---- replies tell of jobs that there are

pub of-jobs-none : (jobs : ℕ) (es : List EventOf) → es ≡ [] → TellsOfJobs jobs es
of-jobs-none jobs es none number past = ap (is_told number) none

pub of-jobs-kept : (jobs now : ℕ) (es : List EventOf) (e : EventOf) → jobs ≤ now → TellsNone e.reply → TellsOfJobs jobs es → TellsOfJobs now (es ++ e ∷ [])
of-jobs-kept jobs now es e more none of_jobs number past = told-kept number es e (none number) ∙ of_jobs number (omega (arith, more, past))

pub of-jobs-told : (jobs number : ℕ) (es : List EventOf) (e : EventOf) → number ≤ jobs → TellsOne e.reply number → TellsOfJobs jobs es → TellsOfJobs jobs (es ++ e ∷ [])
of-jobs-told jobs number es e high tells of_jobs other past =
    told-kept other es e (tells.others other (λ is. omega (arith, is, high, past))) ∙ of_jobs other past
