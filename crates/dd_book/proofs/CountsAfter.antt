-- How many parts of open jobs wait and run after each kind of call.
use Rattle.std.proofs.Common.{◌≡◌, ℕ, ◌+◌, ◌≤◌, Bool, true, false, cond, refl, ap, ◌∙◌, arith, List, [], ◌∷◌, ◌++◌, Some, None}
use Rattle.std.specs.Prelude.{Option, option_and_then, option_map, unwrap_or}
use Rattle.std.specs.Option.{is_some}
use Rattle.std.specs.List.{count_by, position}
use Rattle.dd_request.specs.declared.asked.Asked.{Asked}
use Rattle.dd_book.specs.declared.call.Call.TheVariants as call
use Rattle.dd_book.specs.declared.call.Outcome.{Outcome}
use Rattle.dd_book.specs.declared.call.Outcome.TheVariants.{Stopped}
use Rattle.dd_book.specs.declared.call.Reply.TheVariants.{Recorded, Stale}
use Rattle.dd_book.specs.declared.job.Stage.{Stage}
use Rattle.dd_book.specs.Counts.{counts_in, running_in, waiting_in}
use Rattle.dd_book.specs.Parts.{is_running, is_waiting, runs_by}
use Rattle.dd_book.specs.Jobs.{JobOf, Turn, first_parts, first_turn, job_after, job_at, job_with, new_job, next_turn, own_job, parts_of, stage_after, with_claim, with_job, with_stage}
use Rattle.dd_book.specs.Calls.{BookOf, after, book_claimed, finish_reply, jobs_after_finish, jobs_cancelled, refusal_of, with_jobs}
use Rattle.dd_book.proofs.Counting.{cancel-counts, claim-counts, finish-least, finished, first-runs_not, jobs-push}

-- ---- submits

-- one that is refused leaves the book
pub refused-same : (book : BookOf) (caller : ℕ) (asked : Asked) → is_some (refusal_of book caller) ≡ true → after book (call.Submit caller asked) ≡ book
refused-same book caller asked denied = ap (λ (b : Bool). cond b book (with_jobs book (book.jobs ++ new_job caller asked (first_turn caller book.jobs book.claims) ∷ []))) denied

-- one that isn't refused adds the parts of its job
pub submit-counts : (book : BookOf) (caller : ℕ) (asked : Asked) → is_some (refusal_of book caller) ≡ false
    → (waiting_in (after book (call.Submit caller asked)).jobs ≡ waiting_in book.jobs + count_by is_waiting (first_parts asked))
    × (running_in (after book (call.Submit caller asked)).jobs ≡ running_in book.jobs)
submit-counts book caller asked taken =
    let job = new_job caller asked (first_turn caller book.jobs book.claims) in
    let is : (after book (call.Submit caller asked)).jobs ≡ book.jobs ++ job ∷ [] = ap (λ (b : Bool). (cond b book (with_jobs book (book.jobs ++ job ∷ []))).jobs) taken in
    let runs = jobs-push is_running book.jobs job in
    let none = first-runs_not asked in
    (ap waiting_in is ∙ jobs-push is_waiting book.jobs job, ap running_in is ∙ (omega (arith, runs, none)))

-- ---- claims

-- where no turn is next the book stays
pub idle-same : (book : BookOf) (worker : ℕ) → next_turn book.jobs ≡ None → after book (call.Claim worker) ≡ book
idle-same book worker none = ap (book_claimed book worker) none

-- where one is, a part that waited runs
pub turn-counts : (book : BookOf) (worker : ℕ) (t : Turn) → next_turn book.jobs ≡ Some t
    → (waiting_in (after book (call.Claim worker)).jobs + 1 ≡ waiting_in book.jobs) × (running_in (after book (call.Claim worker)).jobs ≡ running_in book.jobs + 1)
turn-counts book worker t is =
    let jobs : (after book (call.Claim worker)).jobs ≡ with_job book.jobs t.number (with_claim t.job t.part worker (book.claims + 1)) = ap (λ (o : Option Turn). (book_claimed book worker o).jobs) is in
    let counts = claim-counts book.jobs t worker (book.claims + 1) is in
    (ap (λ (js : List JobOf). waiting_in js + 1) jobs ∙ counts.0, ap running_in jobs ∙ counts.1)

-- ---- finishes

-- a stale one leaves the book
pub stale-same : (book : BookOf) (worker number claim : ℕ) (outcome : Outcome) → finish_reply book worker number claim outcome ≡ Stale → after book (call.Finish worker number claim outcome) ≡ book
stale-same book worker number claim outcome told = go (jobs_after_finish book.jobs worker number claim outcome) told
  where
    go : (o : Option (List JobOf)) → cond (is_some o) Recorded Stale ≡ Stale → with_jobs book (unwrap_or o book.jobs) ≡ book
    go None h = refl
    go (Some jobs) h = absurd (cc)

-- no more parts wait, and fewer run
abbrev pub Lessens : List JobOf → List JobOf → Type 0
Lessens before now = (waiting_in now ≤ waiting_in before) × (running_in now + 1 ≤ running_in before)

-- after one that is recorded and was not stopped: a part that ran has ended
pub recorded-counts : (book : BookOf) (worker number claim : ℕ) (outcome : Outcome) → finish_reply book worker number claim outcome ≡ Recorded → (outcome ≡ Stopped → ⊥)
    → Lessens book.jobs (after book (call.Finish worker number claim outcome)).jobs
recorded-counts book worker number claim outcome told other = of_number (job_at book.jobs number) refl told
  where
    of_stage : (job : JobOf) (part : ℕ) (o : Option Stage) → job_at book.jobs number ≡ Some job → position (runs_by worker claim) (parts_of job.stage) ≡ Some part → stage_after job.asked (parts_of job.stage) part outcome ≡ o
        → cond (is_some (option_map (with_job book.jobs number) (option_map (with_stage job) o))) Recorded Stale ≡ Recorded → Lessens book.jobs (finished book.jobs worker number claim outcome)
    of_stage job part None here runs is h = absurd (cc)
    of_stage job part (Some stage) here runs is h = finish-least book.jobs worker number claim part job here runs outcome stage other is

    of_part : (job : JobOf) (o : Option ℕ) → job_at book.jobs number ≡ Some job → position (runs_by worker claim) (parts_of job.stage) ≡ o
        → cond (is_some (option_map (with_job book.jobs number) (option_and_then (job_with job outcome) o))) Recorded Stale ≡ Recorded → Lessens book.jobs (finished book.jobs worker number claim outcome)
    of_part job None here runs h = absurd (cc)
    of_part job (Some part) here runs h = of_stage job part (stage_after job.asked (parts_of job.stage) part outcome) here runs refl h

    of_number : (o : Option JobOf) → job_at book.jobs number ≡ o
        → cond (is_some (option_map (with_job book.jobs number) (option_and_then (job_after worker claim outcome) o))) Recorded Stale ≡ Recorded → Lessens book.jobs (finished book.jobs worker number claim outcome)
    of_number None is h = absurd (cc)
    of_number (Some job) is h = of_part job (position (runs_by worker claim) (parts_of job.stage)) is refl h

-- ---- cancels

-- no more parts wait or run
pub cancel-least : (book : BookOf) (caller number : ℕ)
    → (waiting_in (after book (call.Cancel caller number)).jobs ≤ waiting_in book.jobs) × (running_in (after book (call.Cancel caller number)).jobs ≤ running_in book.jobs)
cancel-least book caller number = go (own_job book.jobs caller number) refl
  where
    go : (o : Option JobOf) → own_job book.jobs caller number ≡ o → (waiting_in (jobs_cancelled book.jobs number o) ≤ waiting_in book.jobs) × (running_in (jobs_cancelled book.jobs number o) ≤ running_in book.jobs)
    go None is = (omega arith, omega arith)
    go (Some job) is =
        let waits = cancel-counts is_waiting book.jobs caller number job is in
        let runs = cancel-counts is_running book.jobs caller number job is in
        (omega arith, omega arith)

-- ---- the others

pub fetch-counts : (book : BookOf) (caller number : ℕ) → counts_in (after book (call.Fetch caller number)).jobs ≡ counts_in book.jobs
fetch-counts book caller number = refl

pub shut-counts : (book : BookOf) → counts_in (after book call.Shut).jobs ≡ counts_in book.jobs
shut-counts book = refl
