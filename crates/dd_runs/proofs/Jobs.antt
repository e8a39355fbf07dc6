-- What a call does to the jobs of a book, and what it tells of them.
use Rattle.std.proofs.Common.{◌≡◌, ℕ, ◌+◌, ◌-◌, ◌<◌, Bool, true, false, cond, arith, refl, sym, ap, ◌∙◌, subst, List, [], ◌∷◌, ◌++◌, length, Some, None, ◌⊎◌, inl, inr}
use Rattle.std.specs.Prelude.{Option, option_and_then, option_map, unwrap_or, slice_get, slice_set, nat_eq, ◌&&◌, ◌==◌}
use Rattle.std.specs.Option.{is_some}
use Rattle.std.specs.List.{position, list_all}
use Rattle.std.proofs.lemmas.Bool.{eqb-true}
use Rattle.std.proofs.lemmas.Bool.Decides.{eqb_tells}
use Rattle.std.proofs.lemmas.Option.{cond_some, same_Some}
use Rattle.dd_cards.specs.Hands.{FourHands}
use Rattle.dd_cards.specs.Same.{same_hands}
use Rattle.dd_request.specs.Questions.{solved_question}
use Rattle.dd_request.specs.Results.{hands_results}
use Rattle.dd_request.specs.Targets.{solved_target}
use Rattle.dd_request.specs.Same.{same_question, same_target}
use Rattle.dd_request.specs.Plays as plays
use Rattle.dd_request.specs.Plays.{trace, tricks_after}
use Rattle.dd_request.specs.declared.asked.Asked.{Asked}
use Rattle.dd_request.specs.declared.asked.Asked.TheVariants.{Solve, Table, Target, Play}
use Rattle.dd_book.specs.declared.call.Call.{Call}
use Rattle.dd_book.specs.declared.call.Call.TheVariants.{Submit, Claim, Finish, Cancel, Fetch, Shut}
use Rattle.dd_book.specs.declared.call.Outcome.{Outcome}
use Rattle.dd_book.specs.declared.call.Outcome.TheVariants.{Solved as SolvedOutcome, Part as PartOutcome, Target as TargetOutcome, PlayPart as PlayPartOutcome, Spent as SpentOutcome, Stopped}
use Rattle.dd_book.specs.declared.call.Refusal.TheVariants.{UnknownJob, JobEnded}
use Rattle.dd_book.specs.declared.call.Reply.{Reply}
use Rattle.dd_book.specs.declared.call.Reply.TheVariants.{Submitted, Claimed, ClaimedTarget, ClaimedPart, ClaimedPlayPart, NothingWaits, Closing, Recorded, Stale, Cancelled, State, Shut as ShutReply, Fault}
use Rattle.dd_book.specs.declared.job.Stage.{Stage}
use Rattle.dd_book.specs.declared.job.Stage.TheVariants.{Open, Done, TableDone, TargetDone, PlayDone, Cancelled as CancelledStage, Spent}
use Rattle.dd_book.specs.declared.parts.Part.{Part}
use Rattle.dd_book.specs.declared.parts.Part.TheVariants.{Waiting, Ended, Number}
use Rattle.dd_book.specs.Next.{next_part}
use Rattle.dd_book.specs.Parts.{is_ended, runs_by}
use Rattle.dd_book.specs.Jobs.{JobOf, Turn, chosen, if_owned, is_of_play, is_open, job_after, job_at, job_with, first_turn, new_job, next_turn, own_job, parts_of, play_stage, shown_stage, stage_after, table_stage, turn, turn_at, turn_of, with_claim, with_job, with_stage}
use Rattle.dd_book.specs.Calls.{BookOf, after, book_claimed, cancel_told, claim_told, claimed, fetch_told, jobs_after_finish, jobs_cancelled, reply_of, with_jobs}
use Rattle.dd_request.proofs.CallerLemmas.{same_question-is, same_target-is}
use Rattle.dd_book.proofs.CallerLemmas.{job_at-place, next-within, refused, slice_get-push_here}
use Rattle.dd_runs.specs.Steps.{CarriesRight, IsRight}
use Rattle.dd_runs.proofs.Lists.{set-from, set-or, slice_get-left, slice_get-push-or}

-- how a job ended is of what it was asked, and right
abbrev pub EndsRight : Asked → Stage → Type 0
EndsRight asked (Open parts) = Unit {0}
EndsRight asked (Done solved) = (asked ≡ Solve solved.asked) × (solved ≡ solved_question solved.asked)
EndsRight asked (TableDone table) = (asked ≡ Table table.hands) × (table ≡ hands_results table.hands)
EndsRight asked (TargetDone solved) = (asked ≡ Target solved.asked) × (solved ≡ solved_target solved.asked)
EndsRight asked (PlayDone tricks) = (play : plays.Play) × (asked ≡ Play play) × (tricks ≡ trace play)
EndsRight asked CancelledStage = Unit {0}
EndsRight asked Spent = Unit {0}

-- what may become of a job: owner and request stay, an ended one stays whole, and a right one is right again
pub record Goes (x y : JobOf) : Type 0 where
  pub owner : y.owner ≡ x.owner
  pub asked : y.asked ≡ x.asked
  pub ended : is_open x ≡ false → y ≡ x
  pub right : EndsRight x.asked x.stage → EndsRight y.asked y.stage

-- what a reply tells of a job: its number to the submit that made it, and its state to a fetch of its owner
abbrev pub TellsJob : List JobOf → Call → Reply → Type 0
TellsJob jobs c (Submitted number) = (job : JobOf) × (job_at jobs number ≡ Some job) × (c ≡ Submit job.owner job.asked)
TellsJob jobs c (Claimed number claim question) = Unit {0}
TellsJob jobs c (ClaimedTarget number claim question) = Unit {0}
TellsJob jobs c (ClaimedPart number part claim hands) = Unit {0}
TellsJob jobs c (ClaimedPlayPart number part claim position side) = Unit {0}
TellsJob jobs c NothingWaits = Unit {0}
TellsJob jobs c Closing = Unit {0}
TellsJob jobs c Recorded = Unit {0}
TellsJob jobs c Stale = Unit {0}
TellsJob jobs c (Cancelled number) = Unit {0}
TellsJob jobs c (State number state) = (job : JobOf) × (job_at jobs number ≡ Some job) × (c ≡ Fetch job.owner number) × (state ≡ shown_stage job.stage)
TellsJob jobs c ShutReply = Unit {0}
TellsJob jobs c (Fault refusal) = Unit {0}

-- the jobs before and after a call with this reply
pub record Changes (before now : List JobOf) (c : Call) (reply : Reply) : Type 0 where
  pub back : (place : ℕ) (y : JobOf) → slice_get now place ≡ Some y
      → ((x : JobOf) × (slice_get before place ≡ Some x) × Goes x y)
      ⊎ ((c ≡ Submit y.owner y.asked) × (reply ≡ Submitted (place + 1)) × EndsRight y.asked y.stage)
  pub forth : (place : ℕ) (x : JobOf) → slice_get before place ≡ Some x → (y : JobOf) × (slice_get now place ≡ Some y) × Goes x y
  pub tells : TellsJob now c reply

-- ---- one job

stays : (x : JobOf) → Goes x x
stays x = record { owner = refl; asked = refl; ended = λ e. refl; right = λ r. r }

-- an open job may go to any stage that is right
moves : (x y : JobOf) → is_open x ≡ true → y.owner ≡ x.owner → y.asked ≡ x.asked → EndsRight y.asked y.stage → Goes x y
moves x y opened owner asked right = record { owner = owner; asked = asked; ended = λ closed. absurd (let e : true ≡ false = sym opened ∙ closed in cc); right = λ r. right }

-- a stage with a part is open
open-stage : (test : Part → Bool) (owner : ℕ) (asked : Asked) (last : ℕ) (stage : Stage) (part : ℕ) → position test (parts_of stage) ≡ Some part
    → (let job : JobOf = record { owner = owner; asked = asked; stage = stage; last_turn = last } in is_open job) ≡ true
open-stage test owner asked last (Open parts) part h = refl
open-stage test owner asked last (Done solved) part h = absurd (cc)
open-stage test owner asked last (TableDone table) part h = absurd (cc)
open-stage test owner asked last (TargetDone solved) part h = absurd (cc)
open-stage test owner asked last (PlayDone tricks) part h = absurd (cc)
open-stage test owner asked last CancelledStage part h = absurd (cc)
open-stage test owner asked last Spent part h = absurd (cc)

-- so is a job with a part
has-part : (test : Part → Bool) (job : JobOf) (part : ℕ) → position test (parts_of job.stage) ≡ Some part → is_open job ≡ true
has-part test job part h = open-stage test job.owner job.asked job.last_turn job.stage part h

-- a part at this place makes its job open
place-open : (place owner last : ℕ) (asked : Asked) (stage : Stage) → place < length (parts_of stage) → (let job : JobOf = record { owner = owner; asked = asked; stage = stage; last_turn = last } in is_open job) ≡ true
place-open place owner last asked (Open parts) h = refl
place-open place owner last asked (Done solved) h = absurd (omega arith)
place-open place owner last asked (TableDone table) h = absurd (omega arith)
place-open place owner last asked (TargetDone solved) h = absurd (omega arith)
place-open place owner last asked (PlayDone tricks) h = absurd (omega arith)
place-open place owner last asked CancelledStage h = absurd (omega arith)
place-open place owner last asked Spent h = absurd (omega arith)

-- a job with a part that is claimed next is open
next-open : (job : JobOf) (part : ℕ) → next_part job.asked (parts_of job.stage) ≡ Some part → is_open job ≡ true
next-open job part h = place-open part job.owner job.last_turn job.asked job.stage (next-within job.asked (parts_of job.stage) part h)

-- ---- jobs by their numbers

not-zero : (number : ℕ) → (number == 0) ≡ false → number ≡ number - 1 + 1
not-zero number none = elim (eqb_tells number 0) [
  | inl same ↦ absurd (let e : true ≡ false = sym same.0 ∙ none in cc)
  | inr differ ↦ (let n = differ.1 in omega arith)
]

-- the place of the job of a number
pub place-of : (jobs : List JobOf) (number : ℕ) (job : JobOf) → job_at jobs number ≡ Some job → (place : ℕ) × (number ≡ place + 1) × (slice_get jobs place ≡ Some job)
place-of jobs number job h = go (number == 0) refl h
  where
    go : (b : Bool) → (number == 0) ≡ b → cond b None (slice_get jobs (number - 1)) ≡ Some job → (place : ℕ) × (number ≡ place + 1) × (slice_get jobs place ≡ Some job)
    go true is e = absurd (cc)
    go false is e = (number - 1, not-zero number is, e)

-- the same job after a call
pub number-forth : (before now : List JobOf) (c : Call) (reply : Reply) → Changes before now c reply → (number : ℕ) (x : JobOf) → job_at before number ≡ Some x
    → (y : JobOf) × (job_at now number ≡ Some y) × Goes x y
number-forth before now c reply ch number x h =
    let p = place-of before number x h in
    let f = ch.forth p.0 x p.2 in
    (f.0, job_at-place now p.0 number f.0 p.1 f.1, f.2)

owned-is : (caller : ℕ) (o : Option JobOf) (job : JobOf) → option_and_then (if_owned caller) o ≡ Some job → (o ≡ Some job) × (job.owner ≡ caller)
owned-is caller None job h = absurd (cc)
owned-is caller (Some j) job h =
    let c = cond_some (nat_eq j.owner caller) j job h in
    (ap Some c.1, subst (λ (z : JobOf). z.owner ≡ caller) c.1 (eqb-true j.owner caller c.0))

-- a job of a caller's own is the job of its number, and the caller's
own-is : (jobs : List JobOf) (caller number : ℕ) (job : JobOf) → own_job jobs caller number ≡ Some job → (job_at jobs number ≡ Some job) × (job.owner ≡ caller)
own-is jobs caller number job h = owned-is caller (job_at jobs number) job h

-- the job whose turn is next, with a part that waits
turn-there : (jobs : List JobOf) (t : Turn) → next_turn jobs ≡ Some t → (slice_get jobs (t.number - 1) ≡ Some t.job) × (next_part t.job.asked (parts_of t.job.stage) ≡ Some t.part)
turn-there jobs t h = first (chosen jobs) h
  where
    of_job : (place : ℕ) (job : JobOf) (o : Option ℕ) → slice_get jobs place ≡ Some job → next_part job.asked (parts_of job.stage) ≡ o → option_map (turn place job) o ≡ Some t
        → (slice_get jobs (t.number - 1) ≡ Some t.job) × (next_part t.job.asked (parts_of t.job.stage) ≡ Some t.part)
    of_job place job None is waits e = absurd (cc)
    of_job place job (Some part) is waits e =
        subst (λ (u : Turn). (slice_get jobs (u.number - 1) ≡ Some u.job) × (next_part u.job.asked (parts_of u.job.stage) ≡ Some u.part)) (same_Some (turn place job part) t e)
        (ap (slice_get jobs) (omega arith) ∙ is, waits)

    at_place : (place : ℕ) (o : Option JobOf) → slice_get jobs place ≡ o → option_and_then (turn_of place) o ≡ Some t
        → (slice_get jobs (t.number - 1) ≡ Some t.job) × (next_part t.job.asked (parts_of t.job.stage) ≡ Some t.part)
    at_place place None is e = absurd (cc)
    at_place place (Some job) is e = of_job place job (next_part job.asked (parts_of job.stage)) is refl e

    first : (o : Option ℕ) → option_and_then (turn_at jobs) o ≡ Some t → (slice_get jobs (t.number - 1) ≡ Some t.job) × (next_part t.job.asked (parts_of t.job.stage) ≡ Some t.part)
    first None e = absurd (cc)
    first (Some place) e = at_place place (slice_get jobs place) refl e

-- ---- lists of jobs

same-changes : (jobs : List JobOf) (c : Call) (reply : Reply) → TellsJob jobs c reply → Changes jobs jobs c reply
same-changes jobs c reply tells = record { back = λ place y h. inl (y, h, stays y); forth = λ place x h. (x, h, stays x); tells = tells }

-- another job in a job's place
set-changes : (jobs : List JobOf) (place : ℕ) (was job : JobOf) (c : Call) (reply : Reply) → slice_get jobs place ≡ Some was → Goes was job
    → ((now : List JobOf) → TellsJob now c reply) → Changes jobs (slice_set jobs place job) c reply
set-changes jobs place was job c reply here goes tells = record {
  back = λ i y h. elim (set-or jobs place i job y h) [
    | inl l ↦ inl (y, l, stays y)
    | inr r ↦ inl (was, subst (λ (k : ℕ). slice_get jobs k ≡ Some was) (sym r.0) here, subst (Goes was) (sym r.1) goes)
  ];
  forth = λ i x h. elim (set-from jobs place i job x h) [
    | inl l ↦ (x, l, stays x)
    | inr r ↦ (
        let same : was ≡ x = same_Some was x (sym here ∙ subst (λ (k : ℕ). slice_get jobs k ≡ Some x) r.0 h) in
        (job, r.1, subst (λ (z : JobOf). Goes z job) same goes))
  ];
  tells = tells (slice_set jobs place job);
}

-- a new job at the end
push-changes : (jobs : List JobOf) (caller turn : ℕ) (asked : Asked) → Changes jobs (jobs ++ new_job caller asked turn ∷ []) (Submit caller asked) (Submitted (length jobs + 1))
push-changes jobs caller turn asked =
    let job : JobOf = new_job caller asked turn in
    record {
      back = λ place y h. elim (slice_get-push-or jobs job place y h) [
        | inl l ↦ inl (y, l, stays y)
        | inr r ↦ inr (
          ap (λ (z : JobOf). Submit z.owner z.asked) (sym r.1),
          ap (λ (n : ℕ). Submitted (n + 1)) (sym r.0),
          subst (λ (z : JobOf). EndsRight z.asked z.stage) (sym r.1) tt,
        )
      ];
      forth = λ place x h. (x, slice_get-left jobs (job ∷ []) place x h, stays x);
      tells = (job, job_at-place (jobs ++ job ∷ []) (length jobs) (length jobs + 1) job refl (slice_get-push_here jobs job), refl);
    }

-- ---- each call

submit-changes : (book : BookOf) (caller : ℕ) (asked : Asked) → Changes book.jobs (after book (Submit caller asked)).jobs (Submit caller asked) (reply_of book (Submit caller asked))
submit-changes book caller asked =
    let jobs = book.jobs in
    let turn = first_turn caller jobs book.claims in
    refused
    (λ (o : Option Reply). Changes jobs (cond (is_some o) book (with_jobs book (jobs ++ new_job caller asked turn ∷ []))).jobs (Submit caller asked) (unwrap_or o (Submitted (length jobs + 1))))
    _ _ _
    (λ refusal. same-changes jobs (Submit caller asked) (Fault refusal) tt) (push-changes jobs caller turn asked)

idle-tells : (jobs : List JobOf) (c : Call) (b : Bool) → TellsJob jobs c (cond b Closing NothingWaits)
idle-tells jobs c true = tt
idle-tells jobs c false = tt

claimed-tells : (c : Call) (number part claim : ℕ) (asked : Asked) (jobs : List JobOf) → TellsJob jobs c (claimed number part claim asked)
claimed-tells c number part claim (Solve question) jobs = tt
claimed-tells c number part claim (Target question) jobs = tt
claimed-tells c number part claim (Table hands) jobs = tt
claimed-tells c number part claim (Play play) jobs = tt

claim-changes : (book : BookOf) (worker : ℕ) → Changes book.jobs (after book (Claim worker)).jobs (Claim worker) (reply_of book (Claim worker))
claim-changes book worker = go (next_turn book.jobs) refl
  where
    go : (o : Option Turn) → next_turn book.jobs ≡ o → Changes book.jobs (book_claimed book worker o).jobs (Claim worker) (claim_told book.shut book.claims o)
    go None is = same-changes book.jobs (Claim worker) _ (idle-tells book.jobs (Claim worker) book.shut)
    go (Some t) is =
        let there = turn-there book.jobs t is in
        let now = with_claim t.job t.part worker (book.claims + 1) in
        set-changes book.jobs (t.number - 1) t.job now (Claim worker) _ there.0 (moves t.job now (next-open t.job t.part there.1) refl refl tt)
        (claimed-tells (Claim worker) t.number t.part (book.claims + 1) t.job.asked)

table-right : (b : Bool) (hands : FourHands) (parts : List Part) → EndsRight (Table hands) (cond b (TableDone (hands_results hands)) (Open parts))
table-right true hands parts = (refl, refl)
table-right false hands parts = tt

play-right : (b : Bool) (play : plays.Play) (parts : List Part) → EndsRight (Play play) (cond b (PlayDone (trace play)) (Open parts))
play-right true play parts = (play, refl, refl)
play-right false play parts = tt

-- what a part ends with is right, where the outcome is
stage-right : (asked : Asked) (parts : List Part) (place : ℕ) (outcome : Outcome) (stage : Stage) → IsRight outcome → stage_after asked parts place outcome ≡ Some stage → EndsRight asked stage
stage-right (Solve question) parts place (SolvedOutcome solved) stage right is =
    let done = cond_some (same_question question solved.asked) (Done solved) stage is in
    subst (EndsRight (Solve question)) done.1 (ap Solve (same_question-is question solved.asked done.0), right)
stage-right (Table hands) parts place (SolvedOutcome solved) stage right is = absurd (cc)
stage-right (Target question) parts place (SolvedOutcome solved) stage right is = absurd (cc)
stage-right (Play play) parts place (SolvedOutcome solved) stage right is = absurd (cc)
stage-right (Solve question) parts place (TargetOutcome solved) stage right is = absurd (cc)
stage-right (Table hands) parts place (TargetOutcome solved) stage right is = absurd (cc)
stage-right (Play play) parts place (TargetOutcome solved) stage right is = absurd (cc)
stage-right (Target question) parts place (TargetOutcome solved) stage right is =
    let done = cond_some (same_target question solved.asked) (TargetDone solved) stage is in
    subst (EndsRight (Target question)) done.1 (ap Target (same_target-is question solved.asked done.0), right)
stage-right (Target question) parts place (PartOutcome solved) stage right is = absurd (cc)
stage-right (Solve question) parts place (PartOutcome solved) stage right is = absurd (cc)
stage-right (Play play) parts place (PartOutcome solved) stage right is = absurd (cc)
stage-right (Table hands) parts place (PartOutcome solved) stage right is =
    let set = slice_set parts place (Ended solved) in
    let done = cond_some (same_hands hands solved.hands && (solved.part == place)) (table_stage hands set) stage is in
    subst (EndsRight (Table hands)) done.1 (table-right (list_all is_ended set) hands set)
stage-right (Solve question) parts place (PlayPartOutcome solved) stage right is = absurd (cc)
stage-right (Table hands) parts place (PlayPartOutcome solved) stage right is = absurd (cc)
stage-right (Target question) parts place (PlayPartOutcome solved) stage right is = absurd (cc)
stage-right (Play play) parts place (PlayPartOutcome solved) stage right is =
    let set = slice_set parts place (Number (tricks_after play place)) in
    let done = cond_some (is_of_play play place solved) (play_stage play set) stage is in
    subst (EndsRight (Play play)) done.1 (play-right (list_all is_ended set) play set)
stage-right asked parts place SpentOutcome stage right is = subst (EndsRight asked) (same_Some Spent stage is) tt
stage-right asked parts place Stopped stage right is = subst (EndsRight asked) (same_Some (Open (slice_set parts place Waiting)) stage is) tt

finished-tells : (jobs : List JobOf) (c : Call) (b : Bool) → TellsJob jobs c (cond b Recorded Stale)
finished-tells jobs c true = tt
finished-tells jobs c false = tt

finish-changes : (jobs : List JobOf) (worker number claim : ℕ) (outcome : Outcome) (c : Call) (reply : Reply) → IsRight outcome → ((now : List JobOf) → TellsJob now c reply)
    → Changes jobs (unwrap_or (jobs_after_finish jobs worker number claim outcome) jobs) c reply
finish-changes jobs worker number claim outcome c reply right tells = of_job (job_at jobs number) refl
  where
    of_stage : (job : JobOf) (part : ℕ) (o : Option Stage) → job_at jobs number ≡ Some job → is_open job ≡ true → stage_after job.asked (parts_of job.stage) part outcome ≡ o
        → Changes jobs (unwrap_or (option_map (with_job jobs number) (option_map (with_stage job) o)) jobs) c reply
    of_stage job part None at' opened is = same-changes jobs c reply (tells jobs)
    of_stage job part (Some stage) at' opened is =
        let p = place-of jobs number job at' in
        let here : slice_get jobs (number - 1) ≡ Some job = (let same : number - 1 ≡ p.0 = (let e = p.1 in omega arith) in ap (slice_get jobs) same ∙ p.2) in
        set-changes jobs (number - 1) job (with_stage job stage) c reply here
        (moves job (with_stage job stage) opened refl refl (stage-right job.asked (parts_of job.stage) part outcome stage right is)) tells

    of_part : (job : JobOf) (o : Option ℕ) → job_at jobs number ≡ Some job → position (runs_by worker claim) (parts_of job.stage) ≡ o
        → Changes jobs (unwrap_or (option_map (with_job jobs number) (option_and_then (job_with job outcome) o)) jobs) c reply
    of_part job None at' is = same-changes jobs c reply (tells jobs)
    of_part job (Some part) at' is = of_stage job part (stage_after job.asked (parts_of job.stage) part outcome) at' (has-part (runs_by worker claim) job part is) refl

    of_job : (o : Option JobOf) → job_at jobs number ≡ o → Changes jobs (unwrap_or (option_map (with_job jobs number) (option_and_then (job_after worker claim outcome) o)) jobs) c reply
    of_job None is = same-changes jobs c reply (tells jobs)
    of_job (Some job) is = of_part job (position (runs_by worker claim) (parts_of job.stage)) is refl

cancel-changes : (jobs : List JobOf) (caller number : ℕ) (o : Option JobOf) → own_job jobs caller number ≡ o → Changes jobs (jobs_cancelled jobs number o) (Cancel caller number) (cancel_told number o)
cancel-changes jobs caller number None is = same-changes jobs (Cancel caller number) (Fault UnknownJob) tt
cancel-changes jobs caller number (Some job) is = go (is_open job) refl
  where
    go : (b : Bool) → is_open job ≡ b → Changes jobs (cond b (with_job jobs number (with_stage job CancelledStage)) jobs) (Cancel caller number) (cond b (Cancelled number) (Fault JobEnded))
    go true opened =
        let p = place-of jobs number job (own-is jobs caller number job is).0 in
        let here : slice_get jobs (number - 1) ≡ Some job = (let same : number - 1 ≡ p.0 = (let e = p.1 in omega arith) in ap (slice_get jobs) same ∙ p.2) in
        set-changes jobs (number - 1) job (with_stage job CancelledStage) (Cancel caller number) (Cancelled number) here (moves job (with_stage job CancelledStage) opened refl refl tt) (λ now. tt)
    go false closed = same-changes jobs (Cancel caller number) (Fault JobEnded) tt

fetch-tells : (jobs : List JobOf) (caller number : ℕ) (o : Option JobOf) → own_job jobs caller number ≡ o → TellsJob jobs (Fetch caller number) (fetch_told number o)
fetch-tells jobs caller number None is = tt
fetch-tells jobs caller number (Some job) is =
    let own = own-is jobs caller number job is in
    (job, own.0, ap (λ (k : ℕ). Fetch k number) (sym own.1), refl)

-- each call that carries no wrong answer
pub changes : (book : BookOf) (c : Call) → CarriesRight c → Changes book.jobs (after book c).jobs c (reply_of book c)
changes book (Submit caller asked) right = submit-changes book caller asked
changes book (Claim worker) right = claim-changes book worker
changes book (Finish worker number claim outcome) right =
    finish-changes book.jobs worker number claim outcome (Finish worker number claim outcome) _ right
    (λ now. finished-tells now (Finish worker number claim outcome) (is_some (jobs_after_finish book.jobs worker number claim outcome)))
changes book (Cancel caller number) right = cancel-changes book.jobs caller number (own_job book.jobs caller number) refl
changes book (Fetch caller number) right = same-changes book.jobs (Fetch caller number) _ (fetch-tells book.jobs caller number (own_job book.jobs caller number) refl)
changes book Shut right = same-changes book.jobs Shut ShutReply tt
