-- What a call leaves of the owners' last turns.
use Rattle.std.proofs.Common.{◌≡◌, ℕ, zero, suc, ◌+◌, ◌-◌, ◌≤◌, Bool, true, false, cond, refl, sym, ap, ◌∙◌, arith, List, [], ◌∷◌, ◌++◌, map, max, Some, None, inl, inr, nat_eq}
use Rattle.std.specs.Prelude.{Option, option_and_then, option_map, unwrap_or, slice_get, slice_set}
use Rattle.std.specs.Option.{is_some}
use Rattle.std.specs.List.{position}
use Rattle.std.proofs.lemmas.Bool.{cases_eq}
use Rattle.std.proofs.lemmas.List.{map-append}
use Rattle.std.proofs.lemmas.Option.{same_Some}
use Rattle.dd_request.specs.declared.asked.Asked.{Asked}
use Rattle.dd_book.specs.declared.call.Call.{Call}
use Rattle.dd_book.specs.declared.call.Call.TheVariants as call
use Rattle.dd_book.specs.declared.call.Outcome.{Outcome}
use Rattle.dd_book.specs.declared.job.Stage.{Stage}
use Rattle.dd_book.specs.declared.job.Stage.TheVariants.{Cancelled as CancelledStage}
use Rattle.dd_book.specs.Parts.{runs_by}
use Rattle.dd_book.specs.Jobs.{JobOf, Turn, first_turn, has_job, is_open, job_after, job_at, job_with, last_turn_of, new_job, next_turn, own_job, parts_of, stage_after, with_claim, with_job, with_stage}
use Rattle.dd_book.specs.Calls.{BookOf, after, book_claimed, jobs_cancelled, refusal_of, run, with_jobs}
use Rattle.dd_book.specs.Fairness.{is_claim, next_owner}
use Rattle.dd_book.proofs.AsksKept.{own-is, there}
use Rattle.dd_book.proofs.Seats.{last-kept, last-pushed, last-raised, last-set_other}
use Rattle.dd_book.proofs.Turns.{due-at}

-- when an owner had its last turn
abbrev pub last : ℕ → BookOf → ℕ
last o book = last_turn_of o book.jobs

-- who owns the jobs, in the order of their numbers
abbrev pub owners : BookOf → List ℕ
owners book = map (λ (j : JobOf). j.owner) book.jobs

-- ---- calls that give no turn

-- no last turn changes, no claim number is given, and each job has its owner
pub record Rests (book now : BookOf) : Type 0 where
  pub lasts : (o : ℕ) → last o now ≡ last o book
  pub number : now.claims ≡ book.claims
  pub owned : owners now ≡ owners book

rests-same : (book : BookOf) → Rests book book
rests-same book = record { lasts = λ o. refl; number = refl; owned = refl }

owners-set : (jobs : List JobOf) (place : ℕ) (was job : JobOf) → slice_get jobs place ≡ Some was → job.owner ≡ was.owner
    → map (λ (j : JobOf). j.owner) (slice_set jobs place job) ≡ map (λ (j : JobOf). j.owner) jobs
owners-set [] place was job here own = refl
owners-set (x ∷ jobs) zero was job here own = ap (λ (o : ℕ). o ∷ map (λ (j : JobOf). j.owner) jobs) (own ∙ ap (λ (j : JobOf). j.owner) (sym (same_Some x was here)))
owners-set (x ∷ jobs) (suc place) was job here own = ap (λ (os : List ℕ). x.owner ∷ os) (owners-set jobs place was job here own)

-- a job goes to another stage
stage-rests : (book : BookOf) (number : ℕ) (job : JobOf) (stage : Stage) → job_at book.jobs number ≡ Some job → Rests book (with_jobs book (with_job book.jobs number (with_stage job stage)))
stage-rests book number job stage at = record {
  lasts = λ o. last-kept book.jobs (number - 1) job (with_stage job stage) o (there book.jobs number job at) refl refl;
  number = refl;
  owned = owners-set book.jobs (number - 1) job (with_stage job stage) (there book.jobs number job at) refl;
}

finish-rests : (book : BookOf) (worker number claim : ℕ) (outcome : Outcome) → Rests book (after book (call.Finish worker number claim outcome))
finish-rests book worker number claim outcome = of_job (job_at book.jobs number) refl
  where
    of_stage : (job : JobOf) (o : Option Stage) → job_at book.jobs number ≡ Some job → Rests book (with_jobs book (unwrap_or (option_map (with_job book.jobs number) (option_map (with_stage job) o)) book.jobs))
    of_stage job None at' = rests-same book
    of_stage job (Some stage) at' = stage-rests book number job stage at'

    of_part : (job : JobOf) (o : Option ℕ) → job_at book.jobs number ≡ Some job → Rests book (with_jobs book (unwrap_or (option_map (with_job book.jobs number) (option_and_then (job_with job outcome) o)) book.jobs))
    of_part job None at' = rests-same book
    of_part job (Some part) at' = of_stage job (stage_after job.asked (parts_of job.stage) part outcome) at'

    of_job : (o : Option JobOf) → job_at book.jobs number ≡ o → Rests book (with_jobs book (unwrap_or (option_map (with_job book.jobs number) (option_and_then (job_after worker claim outcome) o)) book.jobs))
    of_job None is = rests-same book
    of_job (Some job) is = of_part job (position (runs_by worker claim) (parts_of job.stage)) is

cancel-rests : (book : BookOf) (caller number : ℕ) (o : Option JobOf) → own_job book.jobs caller number ≡ o → Rests book (with_jobs book (jobs_cancelled book.jobs number o))
cancel-rests book caller number None is = rests-same book
cancel-rests book caller number (Some job) is = go (is_open job)
  where
    go : (b : Bool) → Rests book (with_jobs book (cond b (with_job book.jobs number (with_stage job CancelledStage)) book.jobs))
    go true = stage-rests book number job CancelledStage (own-is book.jobs caller number job is)
    go false = rests-same book

-- ---- a submit

-- A caller's new job stands at the end. An owner without a job stands behind all turns that were given, and no other last turn changes.
pub record Joins (book now : BookOf) (caller : ℕ) : Type 0 where
  pub lasts : (o : ℕ) → last o now ≡ max (last o book) (cond (nat_eq caller o) (first_turn caller book.jobs book.claims) 0)
  pub number : now.claims ≡ book.claims
  pub owned : owners now ≡ owners book ++ caller ∷ []

submit-joins : (book : BookOf) (caller : ℕ) (asked : Asked) → Joins book (with_jobs book (book.jobs ++ new_job caller asked (first_turn caller book.jobs book.claims) ∷ [])) caller
submit-joins book caller asked =
    let job = new_job caller asked (first_turn caller book.jobs book.claims) in
    record {
      lasts = λ o. last-pushed book.jobs job o;
      number = refl;
      owned = map-append (λ (j : JobOf). j.owner) book.jobs (job ∷ []);
    }

-- ---- claims

-- a claim that takes a part of an owner's: it has its turn, and no other last turn changes
pub record Takes (book now : BookOf) (owner : ℕ) : Type 0 where
  pub its : last owner now ≡ max (last owner book) (book.claims + 1)
  pub others : (o : ℕ) → (o ≡ owner → ⊥) → last o now ≡ last o book
  pub number : now.claims ≡ book.claims + 1
  pub owned : owners now ≡ owners book

pub takes : (book : BookOf) (worker : ℕ) (t : Turn) → next_turn book.jobs ≡ Some t → Takes book (book_claimed book worker (Some t)) t.job.owner
takes book worker t is =
    let at = due-at book.jobs t is in
    let here : slice_get book.jobs (t.number - 1) ≡ Some t.job = ap (slice_get book.jobs) (omega (arith, at.1)) ∙ at.3 in
    let now = with_claim t.job t.part worker (book.claims + 1) in
    record {
      its = last-raised book.jobs (t.number - 1) (book.claims + 1) t.job now t.job.owner here refl refl refl;
      others = λ o other. last-set_other book.jobs (t.number - 1) t.job now o here (λ e. other (sym e)) (λ e. other (sym e));
      number = refl;
      owned = owners-set book.jobs (t.number - 1) t.job now here refl;
    }

-- ---- any call

-- what holds before a call and is left by each kind of change holds after it
pub by-change : (P : BookOf → Type 0) (book : BookOf) (c : Call) → P book → ((now : BookOf) → Rests book now → P now) → ((caller : ℕ) (now : BookOf) → Joins book now caller → P now)
    → ((owner : ℕ) (now : BookOf) → is_claim c ≡ true → next_owner book ≡ Some owner → Takes book now owner → P now) → P (after book c)
by-change P book (call.Submit caller asked) same rests joins taken = go (is_some (refusal_of book caller))
  where
    go : (b : Bool) → P (cond b book (with_jobs book (book.jobs ++ new_job caller asked (first_turn caller book.jobs book.claims) ∷ [])))
    go true = same
    go false = joins caller _ (submit-joins book caller asked)
by-change P book (call.Claim worker) same rests joins taken = go (next_turn book.jobs) refl
  where
    go : (o : Option Turn) → next_turn book.jobs ≡ o → P (book_claimed book worker o)
    go None is = same
    go (Some t) is = taken t.job.owner (book_claimed book worker (Some t)) refl (ap (option_map (λ (u : Turn). u.job.owner)) is) (takes book worker t is)
by-change P book (call.Finish worker number claim outcome) same rests joins taken = rests _ (finish-rests book worker number claim outcome)
by-change P book (call.Cancel caller number) same rests joins taken = rests _ (cancel-rests book caller number (own_job book.jobs caller number) refl)
by-change P book (call.Fetch caller number) same rests joins taken = same
by-change P book call.Shut same rests joins taken = rests _ (record { lasts = λ o. refl; number = refl; owned = refl })

-- ---- no last turn is above the number of claims given

abbrev pub IsWithin : BookOf → Type 0
IsWithin book = (o : ℕ) → last o book ≤ book.claims

within-joins : (book now : BookOf) (caller : ℕ) → Joins book now caller → IsWithin book → IsWithin now
within-joins book now caller j w o =
    let turn = small (nat_eq caller o) (has_job caller book.jobs) in
    omega (arith, j.lasts o, j.number, w o, turn)
  where
    small : (a b : Bool) → cond a (cond b 0 book.claims) 0 ≤ book.claims
    small true true = omega arith
    small true false = omega arith
    small false b = omega arith

within-takes : (book now : BookOf) (owner : ℕ) → Takes book now owner → IsWithin book → IsWithin now
within-takes book now owner t w o = elim (cases_eq o owner) [
  | inl same ↦ omega (arith, ap (λ x. last x now) same, t.its, t.number, w owner)
  | inr other ↦ omega (arith, t.others o other, t.number, w o)
]

within-after : (book : BookOf) (c : Call) → IsWithin book → IsWithin (after book c)
within-after book c w = by-change IsWithin book c w
    (λ now r o. omega (arith, r.lasts o, r.number, w o))
    (λ caller now j. within-joins book now caller j w)
    (λ owner now is next t. within-takes book now owner t w)

pub within-run : (cs : List Call) (book : BookOf) → IsWithin book → IsWithin (run book cs)
unfolding run
within-run [] book w = w
within-run (c ∷ cs) book w = within-run cs (after book c) (within-after book c w)
