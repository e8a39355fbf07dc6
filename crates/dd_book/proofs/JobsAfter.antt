-- The list of jobs after a call: how long it is, and that ended jobs stay as they are.
use Rattle.std.proofs.Common.{◌≡◌, ℕ, ◌+◌, ◌-◌, ◌<◌, Bool, true, false, cond, refl, sym, ap, ◌∙◌, arith, List, [], ◌∷◌, ◌++◌, length, Some, None, nat_le}
use Rattle.std.specs.Prelude.{Option, option_and_then, option_map, unwrap_or, slice_get, slice_set, ◌==◌}
use Rattle.std.specs.Option.{is_some}
use Rattle.std.specs.List.{position}
use Rattle.std.proofs.lemmas.Bool.Decides.{nat_tests}
use Rattle.std.proofs.lemmas.List.{append-nil, length-map, length_push}
use Rattle.std.proofs.lemmas.Option.{same_Some}
use Rattle.dd_request.specs.declared.asked.Asked.{Asked}
use Rattle.dd_request.specs.declared.asked.Asked.TheVariants.{Solve, Table, Target, Play}
use Rattle.dd_book.specs.declared.call.Call.{Call}
use Rattle.dd_book.specs.declared.call.Call.TheVariants as call
use Rattle.dd_book.specs.declared.call.Refusal.TheVariants.{BookFull, JobEnded, OpenJobs, ShuttingDown}
use Rattle.dd_book.specs.declared.call.Reply.{Reply}
use Rattle.dd_book.specs.declared.call.Reply.TheVariants.{Submitted, NothingWaits, Closing, Recorded, Stale, Cancelled, Fault}
use Rattle.dd_book.specs.declared.job.Stage.{Stage}
use Rattle.dd_book.specs.declared.job.Stage.TheVariants.{Cancelled as CancelledStage}
use Rattle.dd_book.specs.Asks.{asked_anew, asks_of, is_submitted}
use Rattle.dd_book.specs.Parts.{runs_by}
use Rattle.dd_book.specs.Jobs.{JobOf, Turn, first_turn, is_open, job_after, job_at, job_with, new_job, next_turn, open_of, own_job, parts_of, stage_after, with_claim, with_job, with_stage}
use Rattle.dd_book.specs.Calls.{BookOf, after, book_claimed, cancel_told, claim_told, claimed, fetch_told, jobs_after_finish, jobs_cancelled, refusal_of, reply_of, with_jobs}
use Rattle.dd_book.proofs.AsksKept.{own-is, steps, there}
use Rattle.dd_book.proofs.Counting.{turn-part}
use Rattle.dd_book.proofs.Elements.{slice_get-end, slice_get-push_other, slice_get-set_other}
use Rattle.dd_book.proofs.Indexed.{open-from_part, open-from_place}
use Rattle.dd_book.proofs.NextPart.{next-within}
use Rattle.dd_book.proofs.Turns.{due-at}
use Rattle.std.proofs.lemmas.Bool.{leb-false}

-- ---- how long it is

not-full : (a b c : Bool) → cond a (Some (Fault ShuttingDown)) (cond b (Some (Fault OpenJobs)) (cond c (Some (Fault BookFull)) None)) ≡ None → c ≡ false
not-full true b c h = absurd (cc)
not-full false true c h = absurd (cc)
not-full false false true h = absurd (cc)
not-full false false false h = refl

-- a submit that isn't refused makes one job more, of which it tells the number, and there was room for it
pub submit-length : (book : BookOf) (caller : ℕ) (asked : Asked) → refusal_of book caller ≡ None
    → (length (after book (call.Submit caller asked)).jobs ≡ length book.jobs + 1) × (reply_of book (call.Submit caller asked) ≡ Submitted (length book.jobs + 1)) × (length book.jobs < book.limits.jobs)
submit-length book caller asked taken =
    let job = new_job caller asked (first_turn caller book.jobs book.claims) in
    let is : (after book (call.Submit caller asked)).jobs ≡ book.jobs ++ job ∷ [] = ap (λ (o : Option Reply). (cond (is_some o) book (with_jobs book (book.jobs ++ job ∷ []))).jobs) taken in (
      ap length is ∙ length_push book.jobs job,
      ap (λ (o : Option Reply). unwrap_or o (Submitted (length book.jobs + 1))) taken,
      leb-false book.limits.jobs (length book.jobs) (not-full book.shut (nat_le book.limits.open_jobs (open_of caller book.jobs)) (nat_le book.limits.jobs (length book.jobs)) taken),
    )

anew-none : (c : Call) (reply : Reply) → is_submitted reply ≡ false → asked_anew c reply ≡ []
anew-none (call.Submit caller asked) reply other = ap (λ (b : Bool). cond b (asked ∷ []) []) other
anew-none (call.Claim worker) reply other = refl
anew-none (call.Finish worker number claim outcome) reply other = refl
anew-none (call.Cancel caller number) reply other = refl
anew-none (call.Fetch caller number) reply other = refl
anew-none call.Shut reply other = refl

-- a call that is told anything else leaves as many jobs
pub jobs-length : (book : BookOf) (c : Call) → is_submitted (reply_of book c) ≡ false → length (after book c).jobs ≡ length book.jobs
jobs-length book c other =
    let asks : asks_of (after book c).jobs ≡ asks_of book.jobs = (steps book c).0 ∙ ap (λ (more : List Asked). asks_of book.jobs ++ more) (anew-none c (reply_of book c) other) ∙ append-nil (asks_of book.jobs) in
    sym (length-map (after book c).jobs (λ (job : JobOf). job.asked)) ∙ ap length asks ∙ length-map book.jobs (λ (job : JobOf). job.asked)

-- ---- what is told

not-refused : (a b c : Bool) (m n : ℕ) → unwrap_or (cond a (Some (Fault ShuttingDown)) (cond b (Some (Fault OpenJobs)) (cond c (Some (Fault BookFull)) None))) (Submitted m) ≡ Submitted n
    → cond a (Some (Fault ShuttingDown)) (cond b (Some (Fault OpenJobs)) (cond c (Some (Fault BookFull)) None)) ≡ None
not-refused true b c m n h = absurd (cc)
not-refused false true c m n h = absurd (cc)
not-refused false false true m n h = absurd (cc)
not-refused false false false m n h = refl

claimed-no : (number part claim : ℕ) (asked : Asked) → is_submitted (claimed number part claim asked) ≡ false
claimed-no number part claim (Solve question) = refl
claimed-no number part claim (Target question) = refl
claimed-no number part claim (Table hands) = refl
claimed-no number part claim (Play play) = refl

either-no : (b : Bool) (one other : Reply) → is_submitted one ≡ false → is_submitted other ≡ false → is_submitted (cond b one other) ≡ false
either-no true one other first second = first
either-no false one other first second = second

claim-no : (shut : Bool) (claims : ℕ) (o : Option Turn) → is_submitted (claim_told shut claims o) ≡ false
claim-no shut claims None = either-no shut Closing NothingWaits refl refl
claim-no shut claims (Some t) = claimed-no t.number t.part (claims + 1) t.job.asked

cancel-no : (number : ℕ) (o : Option JobOf) → is_submitted (cancel_told number o) ≡ false
cancel-no number None = refl
cancel-no number (Some job) = either-no (is_open job) (Cancelled number) (Fault JobEnded) refl refl

fetch-no : (number : ℕ) (o : Option JobOf) → is_submitted (fetch_told number o) ≡ false
fetch-no number None = refl
fetch-no number (Some job) = refl

told-other : {X : Type 0} (reply : Reply) (n : ℕ) → reply ≡ Submitted n → is_submitted reply ≡ false → X
told-other reply n told other = absurd (let e : true ≡ false = ap is_submitted (sym told) ∙ other in cc)

-- the number of a new job is told where one is made
pub submitted-length : (book : BookOf) (c : Call) (n : ℕ) → reply_of book c ≡ Submitted n → (length (after book c).jobs ≡ length book.jobs + 1) × (n ≡ length book.jobs + 1) × (length book.jobs < book.limits.jobs)
submitted-length book (call.Submit caller asked) n told =
    let made = submit-length book caller asked
    (not-refused book.shut (nat_le book.limits.open_jobs (open_of caller book.jobs)) (nat_le book.limits.jobs (length book.jobs)) (length book.jobs + 1) n told) in
    let same : Submitted n ≡ Submitted (length book.jobs + 1) = sym told ∙ made.1 in
    (made.0, (cc), made.2)
submitted-length book (call.Claim worker) n told = told-other (reply_of book (call.Claim worker)) n told (claim-no book.shut book.claims (next_turn book.jobs))
submitted-length book (call.Finish worker number claim outcome) n told =
    told-other (reply_of book (call.Finish worker number claim outcome)) n told (either-no (is_some (jobs_after_finish book.jobs worker number claim outcome)) Recorded Stale refl refl)
submitted-length book (call.Cancel caller number) n told = told-other (reply_of book (call.Cancel caller number)) n told (cancel-no number (own_job book.jobs caller number))
submitted-length book (call.Fetch caller number) n told = told-other (reply_of book (call.Fetch caller number)) n told (fetch-no number (own_job book.jobs caller number))
submitted-length book call.Shut n told = told-other (reply_of book call.Shut) n told refl

-- ---- ended jobs

abbrev Stays : List JobOf → List JobOf → Type 0
Stays before now = (n : ℕ) (job : JobOf) → job_at before n ≡ Some job → is_open job ≡ false → job_at now n ≡ Some job

same-stays : (jobs : List JobOf) → Stays jobs jobs
same-stays jobs n job here closed = here

-- an open job changes
set-stays : (jobs : List JobOf) (place : ℕ) (was now : JobOf) → slice_get jobs place ≡ Some was → is_open was ≡ true → Stays jobs (slice_set jobs place now)
set-stays jobs place was now stood opened n job here closed = at_place (n == 0) (n - 1) here
  where
    at_place : (b : Bool) (k : ℕ) → cond b None (slice_get jobs k) ≡ Some job → cond b None (slice_get (slice_set jobs place now) k) ≡ Some job
    at_place true k h = absurd (cc)
    at_place false k h =
        slice_get-set_other jobs place k now (λ same.
        let one : was ≡ job = same_Some was job (sym stood ∙ ap (slice_get jobs) (sym same) ∙ h) in
        let never : true ≡ false = sym opened ∙ ap is_open one ∙ closed in
        cc) ∙ h

-- a job is added
push-stays : (jobs : List JobOf) (new : JobOf) → Stays jobs (jobs ++ new ∷ [])
push-stays jobs new n job here closed = at_place (n == 0) (n - 1) here
  where
    at_place : (b : Bool) (k : ℕ) → cond b None (slice_get jobs k) ≡ Some job → cond b None (slice_get (jobs ++ new ∷ []) k) ≡ Some job
    at_place true k h = absurd (cc)
    at_place false k h =
        slice_get-push_other jobs k new (λ same.
        let never : None ≡ Some job = sym (slice_get-end jobs) ∙ ap (slice_get jobs) (sym same) ∙ h in
        cc) ∙ h

-- a job that isn't open stays as it is
pub ended-stays : (book : BookOf) (c : Call) (n : ℕ) (job : JobOf) → job_at book.jobs n ≡ Some job → is_open job ≡ false → job_at (after book c).jobs n ≡ Some job
ended-stays book (call.Submit caller asked) = go (is_some (refusal_of book caller))
  where
    go : (b : Bool) → Stays book.jobs (cond b book (with_jobs book (book.jobs ++ new_job caller asked (first_turn caller book.jobs book.claims) ∷ []))).jobs
    go true = same-stays book.jobs
    go false = push-stays book.jobs (new_job caller asked (first_turn caller book.jobs book.claims))
ended-stays book (call.Claim worker) = go (next_turn book.jobs) refl
  where
    go : (o : Option Turn) → next_turn book.jobs ≡ o → Stays book.jobs (book_claimed book worker o).jobs
    go None is = same-stays book.jobs
    go (Some t) is =
        let at = due-at book.jobs t is in
        let within = next-within t.job.asked (parts_of t.job.stage) t.part (turn-part book.jobs t is) in
        set-stays book.jobs (t.number - 1) t.job (with_claim t.job t.part worker (book.claims + 1)) (ap (slice_get book.jobs) (omega (arith, at.1)) ∙ at.3)
        (open-from_place t.part t.job.owner t.job.last_turn t.job.asked t.job.stage within)
ended-stays book (call.Finish worker number claim outcome) = of_number (job_at book.jobs number) refl
  where
    of_stage : (job : JobOf) (part : ℕ) (o : Option Stage) → job_at book.jobs number ≡ Some job → position (runs_by worker claim) (parts_of job.stage) ≡ Some part
        → Stays book.jobs (unwrap_or (option_map (with_job book.jobs number) (option_map (with_stage job) o)) book.jobs)
    of_stage job part None here runs = same-stays book.jobs
    of_stage job part (Some stage) here runs =
        set-stays book.jobs (number - 1) job (with_stage job stage) (there book.jobs number job here) (open-from_part (runs_by worker claim) part job.owner job.asked job.last_turn job.stage runs)

    of_part : (job : JobOf) (o : Option ℕ) → job_at book.jobs number ≡ Some job → position (runs_by worker claim) (parts_of job.stage) ≡ o
        → Stays book.jobs (unwrap_or (option_map (with_job book.jobs number) (option_and_then (job_with job outcome) o)) book.jobs)
    of_part job None here runs = same-stays book.jobs
    of_part job (Some part) here runs = of_stage job part (stage_after job.asked (parts_of job.stage) part outcome) here runs

    of_number : (o : Option JobOf) → job_at book.jobs number ≡ o → Stays book.jobs (unwrap_or (option_map (with_job book.jobs number) (option_and_then (job_after worker claim outcome) o)) book.jobs)
    of_number None is = same-stays book.jobs
    of_number (Some job) is = of_part job (position (runs_by worker claim) (parts_of job.stage)) is refl
ended-stays book (call.Cancel caller number) = of_own (own_job book.jobs caller number) refl
  where
    of_open : (job : JobOf) (b : Bool) → own_job book.jobs caller number ≡ Some job → is_open job ≡ b → Stays book.jobs (cond b (with_job book.jobs number (with_stage job CancelledStage)) book.jobs)
    of_open job true is opened = set-stays book.jobs (number - 1) job (with_stage job CancelledStage) (there book.jobs number job (own-is book.jobs caller number job is)) opened
    of_open job false is closed = same-stays book.jobs

    of_own : (o : Option JobOf) → own_job book.jobs caller number ≡ o → Stays book.jobs (jobs_cancelled book.jobs number o)
    of_own None is = same-stays book.jobs
    of_own (Some job) is = of_open job (is_open job) is refl
ended-stays book (call.Fetch caller number) = same-stays book.jobs
ended-stays book call.Shut = same-stays book.jobs
