-- What a call does to the number of jobs, and what its reply tells of their ends.
use Rattle.std.proofs.Common.{◌≡◌, ℕ, ◌+◌, ◌-◌, ◌<◌, ◌≤◌, ◌⊎◌, inl, inr, Bool, true, false, cond, refl, sym, ap, ◌∙◌, subst, arith, eq-eqb, leb-false, List, [], ◌∷◌, ◌++◌, length, Option, Some, None, nat_le}
use Rattle.std.specs.Prelude.{◌==◌, option_and_then, option_map, unwrap_or, slice_get, slice_set}
use Rattle.std.specs.Option.{is_some}
use Rattle.std.proofs.lemmas.Bool.{cases_eq, not-false, not-true}
use Rattle.std.proofs.lemmas.Option.{slice_get_within}
use Rattle.dd_request.specs.declared.asked.Asked.{Asked}
use Rattle.dd_request.specs.declared.asked.Asked.TheVariants.{Solve, Table, Target, Play}
use Rattle.dd_book.specs.declared.call.Call.{Call}
use Rattle.dd_book.specs.declared.call.Call.TheVariants.{Submit, Claim, Finish, Cancel, Fetch, Shut}
use Rattle.dd_book.specs.declared.call.Outcome.{Outcome}
use Rattle.dd_book.specs.declared.call.Refusal.TheVariants.{OpenJobs, BookFull, ShuttingDown}
use Rattle.dd_book.specs.declared.call.Reply.{Reply}
use Rattle.dd_book.specs.declared.call.Reply.TheVariants as reply
use Rattle.dd_book.specs.declared.job.Stage.{Stage}
use Rattle.dd_book.specs.declared.job.Stage.TheVariants.{Open, Done, TableDone, TargetDone, PlayDone, Cancelled as CancelledStage, Spent}
use Rattle.dd_book.specs.Parts.{is_waiting}
use Rattle.std.specs.List.{list_all}
use Rattle.dd_book.specs.Jobs.{JobOf, Turn, first_turn, if_owned, is_open, is_open_job, job_after, job_at, new_job, next_turn, open_of, own_job, shown_stage, with_job}
use Rattle.dd_book.specs.Calls.{BookOf, after, book_claimed, cancel_told, claim_told, claimed, fetch_told, jobs_cancelled, refusal_of, reply_of, with_jobs}
use Rattle.dd_book.proofs.CallerLemmas.{refused}
use Rattle.dd_desk.specs.Counted.{AreFlags, IsNewJob, TellsOfJobs, flags_after}
use Rattle.dd_desk.specs.Events.{EventOf, event}
use Rattle.dd_desk.specs.Looks.{is_ended_job}
use Rattle.dd_desk.specs.Reserve.{has_ended, is_told, untold}
use Rattle.dd_desk.proofs.Untold.{TellsNone, TellsOne, cancel-tells, flags-kept, flags-pushed, flags-told, of-jobs-kept, of-jobs-told, state-tells, state-tells_none, untold-kept, untold-suc, untold-told, length-set_at}
use Rattle.std.proofs.lemmas.List.{length_push}

-- no job begins, and of none it is told that it has ended
pub record IsQuiet (book : BookOf) (c : Call) : Type 0 where
  pub jobs : length (after book c).jobs ≡ length book.jobs
  pub tells : TellsNone (reply_of book c)
  pub flags : (flags : List Bool) → flags_after flags (reply_of book c) ≡ flags
  pub old : IsNewJob (reply_of book c) → ⊥

-- a job begins
pub record Begins (book : BookOf) (c : Call) : Type 0 where
  pub jobs : length (after book c).jobs ≡ length book.jobs + 1
  pub room : length book.jobs < book.limits.jobs
  pub tells : TellsNone (reply_of book c)
  pub flags : (flags : List Bool) → flags_after flags (reply_of book c) ≡ flags ++ false ∷ []

-- it is told that this job has ended
pub record TellsEnd (book : BookOf) (c : Call) (number : ℕ) : Type 0 where
  pub jobs : length (after book c).jobs ≡ length book.jobs
  pub low : 1 ≤ number
  pub high : number ≤ length book.jobs
  pub tells : TellsOne (reply_of book c) number
  pub flags : (flags : List Bool) → flags_after flags (reply_of book c) ≡ slice_set flags (number - 1) true
  pub old : IsNewJob (reply_of book c) → ⊥

-- such a reply
abbrev QuietReply : Reply → Type 0
QuietReply told = TellsNone told × ((flags : List Bool) → flags_after flags told ≡ flags) × (IsNewJob told → ⊥)

-- ---- submits

none-refused : {R : Type 0} (a b c : Bool) (x y z : R) → is_some (cond a (Some x) (cond b (Some y) (cond c (Some z) None))) ≡ false
    → (cond a (Some x) (cond b (Some y) (cond c (Some z) None)) ≡ None) × (c ≡ false)
none-refused true b c x y z h = absurd (cc)
none-refused false true c x y z h = absurd (cc)
none-refused false false true x y z h = absurd (cc)
none-refused false false false x y z h = (refl, refl)

pub submit-begins : (book : BookOf) (caller : ℕ) (asked : Asked) → is_some (refusal_of book caller) ≡ false → Begins book (Submit caller asked)
submit-begins book caller asked none =
    let job = new_job caller asked (first_turn caller book.jobs book.claims) in
    let taken = none-refused book.shut (nat_le book.limits.open_jobs (open_of caller book.jobs)) (nat_le book.limits.jobs (length book.jobs)) (reply.Fault ShuttingDown) (reply.Fault OpenJobs) (reply.Fault BookFull) none in
    let told : reply_of book (Submit caller asked) ≡ reply.Submitted (length book.jobs + 1) = ap (λ o. unwrap_or o (reply.Submitted (length book.jobs + 1))) taken.0 in
    record {
      jobs = ap (λ (b : Bool). length (cond b book (with_jobs book (book.jobs ++ job ∷ []))).jobs) none ∙ length_push book.jobs job;
      room = leb-false book.limits.jobs (length book.jobs) taken.1;
      tells = subst TellsNone (sym told) (λ k. refl);
      flags = λ flags. ap (flags_after flags) told;
    }

pub submit-quiet : (book : BookOf) (caller : ℕ) (asked : Asked) → is_some (refusal_of book caller) ≡ true → IsQuiet book (Submit caller asked)
submit-quiet book caller asked some =
    let job = new_job caller asked (first_turn caller book.jobs book.claims) in
    let made = reply.Submitted (length book.jobs + 1) in
    let told = refused
    (λ (o : Option Reply). is_some o ≡ true → TellsNone (unwrap_or o made) × ((flags : List Bool) → flags_after flags (unwrap_or o made) ≡ flags) × (IsNewJob (unwrap_or o made) → ⊥))
    _ _ _ (λ refusal is. ((λ k. refl), (λ flags. refl), (λ new. new))) (λ is. absurd (cc)) some in
    record {
      jobs = ap (λ (b : Bool). length (cond b book (with_jobs book (book.jobs ++ job ∷ []))).jobs) some;
      tells = told.0;
      flags = told.1;
      old = told.2;
    }

-- ---- claims and finishes

claimed-quiet : (number part claim : ℕ) (asked : Asked) → QuietReply (claimed number part claim asked)
claimed-quiet number part claim (Solve question) = ((λ k. refl), (λ flags. refl), (λ new. new))
claimed-quiet number part claim (Table hands) = ((λ k. refl), (λ flags. refl), (λ new. new))
claimed-quiet number part claim (Target question) = ((λ k. refl), (λ flags. refl), (λ new. new))
claimed-quiet number part claim (Play play) = ((λ k. refl), (λ flags. refl), (λ new. new))

nothing-quiet : (shut : Bool) → QuietReply (cond shut reply.Closing reply.NothingWaits)
nothing-quiet true = ((λ k. refl), (λ flags. refl), (λ new. new))
nothing-quiet false = ((λ k. refl), (λ flags. refl), (λ new. new))

turn-quiet : (shut : Bool) (claims : ℕ) (o : Option Turn) → QuietReply (claim_told shut claims o)
turn-quiet shut claims None = nothing-quiet shut
turn-quiet shut claims (Some t) = claimed-quiet t.number t.part (claims + 1) t.job.asked

turn-jobs : (book : BookOf) (worker : ℕ) (o : Option Turn) → length (book_claimed book worker o).jobs ≡ length book.jobs
turn-jobs book worker None = refl
turn-jobs book worker (Some t) = length-set_at book.jobs (t.number - 1) _

pub claim-quiet : (book : BookOf) (worker : ℕ) → IsQuiet book (Claim worker)
claim-quiet book worker =
    let told = turn-quiet book.shut book.claims (next_turn book.jobs) in
    record { jobs = turn-jobs book worker (next_turn book.jobs); tells = told.0; flags = told.1; old = told.2 }

recorded-quiet : (b : Bool) → QuietReply (cond b reply.Recorded reply.Stale)
recorded-quiet true = ((λ k. refl), (λ flags. refl), (λ new. new))
recorded-quiet false = ((λ k. refl), (λ flags. refl), (λ new. new))

finish-jobs : (jobs : List JobOf) (number : ℕ) (o : Option JobOf) → length (unwrap_or (option_map (with_job jobs number) o) jobs) ≡ length jobs
finish-jobs jobs number None = refl
finish-jobs jobs number (Some job) = length-set_at jobs (number - 1) job

pub finish-quiet : (book : BookOf) (worker number claim : ℕ) (outcome : Outcome) → IsQuiet book (Finish worker number claim outcome)
finish-quiet book worker number claim outcome =
    let o = option_and_then (job_after worker claim outcome) (job_at book.jobs number) in
    let told = recorded-quiet (is_some (option_map (with_job book.jobs number) o)) in
    record { jobs = finish-jobs book.jobs number o; tells = told.0; flags = told.1; old = told.2 }

pub shut-quiet : (book : BookOf) → IsQuiet book Shut
shut-quiet book = record { jobs = refl; tells = λ k. refl; flags = λ flags. refl; old = λ new. new }

-- ---- cancels and fetches

-- a caller's own job is there
pub own-within : (jobs : List JobOf) (caller number : ℕ) (job : JobOf) → own_job jobs caller number ≡ Some job → (1 ≤ number) × (number ≤ length jobs)
own-within jobs caller number job own = go (number == 0) refl own
  where
    at : (o : Option JobOf) → slice_get jobs (number - 1) ≡ o → option_and_then (if_owned caller) o ≡ Some job → number - 1 < length jobs
    at None is e = absurd (cc)
    at (Some found) is e = slice_get_within jobs (number - 1) found is

    go : (b : Bool) → (number == 0) ≡ b → option_and_then (if_owned caller) (cond b None (slice_get jobs (number - 1))) ≡ Some job → (1 ≤ number) × (number ≤ length jobs)
    go true is e = absurd (cc)
    go false is e =
        let some : 1 ≤ number = elim (cases_eq number 0) [
          | inl none ↦ absurd (let no : true ≡ false = sym (eq-eqb number 0 none) ∙ is in cc)
          | inr some ↦ omega (arith, some)
        ] in
        let within = at (slice_get jobs (number - 1)) refl e in
        (some, omega (arith, some, within))

-- what a cancel does by the caller's own job
cancel-jobs : (jobs : List JobOf) (number : ℕ) (own : Option JobOf) → length (jobs_cancelled jobs number own) ≡ length jobs
cancel-jobs jobs number None = refl
cancel-jobs jobs number (Some job) = go (is_open job)
  where
    go : (b : Bool) → length (cond b (with_job jobs number (record job { stage = CancelledStage })) jobs) ≡ length jobs
    go true = length-set_at jobs (number - 1) _
    go false = refl

cancel-none : (number : ℕ) (own : Option JobOf) → is_open_job own ≡ false → QuietReply (cancel_told number own)
cancel-none number None closed = ((λ k. refl), (λ flags. refl), (λ new. new))
cancel-none number (Some job) closed = subst QuietReply (ap (λ b. cond b (reply.Cancelled number) (cancel_told number (Some (record job { stage = CancelledStage })))) (sym closed)) ((λ k. refl), (λ flags. refl), (λ new. new))

pub cancel-quiet : (book : BookOf) (caller number : ℕ) → is_open_job (own_job book.jobs caller number) ≡ false → IsQuiet book (Cancel caller number)
cancel-quiet book caller number closed =
    let told = cancel-none number (own_job book.jobs caller number) closed in
    record { jobs = cancel-jobs book.jobs number (own_job book.jobs caller number); tells = told.0; flags = told.1; old = told.2 }

-- the reply is one that tells it
pub record IsEnd (told : Reply) (number : ℕ) : Type 0 where
  pub tells : TellsOne told number
  pub flags : (flags : List Bool) → flags_after flags told ≡ slice_set flags (number - 1) true
  pub old : IsNewJob told → ⊥

open-there : (own : Option JobOf) → is_open_job own ≡ true → (job : JobOf) × (own ≡ Some job) × (is_open job ≡ true)
open-there None opened = absurd (cc)
open-there (Some job) opened = (job, refl, opened)

cancel-end : (number : ℕ) (job : JobOf) → is_open job ≡ true → cancel_told number (Some job) ≡ reply.Cancelled number
cancel-end number job opened = rw opened refl

pub cancel-tells_end : (book : BookOf) (caller number : ℕ) → is_open_job (own_job book.jobs caller number) ≡ true → TellsEnd book (Cancel caller number) number
cancel-tells_end book caller number opened =
    let there = open-there (own_job book.jobs caller number) opened in
    let told : reply_of book (Cancel caller number) ≡ reply.Cancelled number = ap (cancel_told number) there.1 ∙ cancel-end number there.0 there.2 in
    let within = own-within book.jobs caller number there.0 there.1 in
    record {
      jobs = cancel-jobs book.jobs number (own_job book.jobs caller number);
      low = within.0;
      high = within.1;
      tells = subst (λ r. TellsOne r number) (sym told) (cancel-tells number);
      flags = λ flags. ap (flags_after flags) told;
      old = subst (λ r. IsNewJob r → ⊥) (sym told) (λ new. new);
    }

-- a job that isn't open is shown as it stays, and one that is isn't
pub shown-ended : (owner : ℕ) (asked : Asked) (last : ℕ) (stage : Stage) → is_open (record { owner = owner; asked = asked; stage = stage; last_turn = last }) ≡ false → has_ended (shown_stage stage) ≡ true
shown-ended owner asked last (Open parts) closed = absurd (cc)
shown-ended owner asked last (Done solved) closed = refl
shown-ended owner asked last (TableDone table) closed = refl
shown-ended owner asked last (TargetDone solved) closed = refl
shown-ended owner asked last (PlayDone tricks) closed = refl
shown-ended owner asked last CancelledStage closed = refl
shown-ended owner asked last Spent closed = refl

shown-open : (owner : ℕ) (asked : Asked) (last : ℕ) (stage : Stage) → is_open (record { owner = owner; asked = asked; stage = stage; last_turn = last }) ≡ true → has_ended (shown_stage stage) ≡ false
shown-open owner asked last (Open parts) opened = go (list_all is_waiting parts) refl
  where
    go : (b : Bool) → list_all is_waiting parts ≡ b → has_ended (shown_stage (Open parts)) ≡ false
    go true is = rw is refl
    go false is = rw is refl
shown-open owner asked last (Done solved) opened = absurd (cc)
shown-open owner asked last (TableDone table) opened = absurd (cc)
shown-open owner asked last (TargetDone solved) opened = absurd (cc)
shown-open owner asked last (PlayDone tricks) opened = absurd (cc)
shown-open owner asked last CancelledStage opened = absurd (cc)
shown-open owner asked last Spent opened = absurd (cc)

fetch-none : (number : ℕ) (own : Option JobOf) → is_ended_job own ≡ false → QuietReply (fetch_told number own)
fetch-none number None goes = ((λ k. refl), (λ flags. refl), (λ new. new))
fetch-none number (Some job) goes =
    let shown : has_ended (shown_stage job.stage) ≡ false = shown-open job.owner job.asked job.last_turn job.stage (not-false (is_open job) goes) in
    (state-tells_none number (shown_stage job.stage) shown, (λ flags. ap (λ b. cond b (slice_set flags (number - 1) true) flags) shown), (λ new. new))

pub fetch-quiet : (book : BookOf) (caller number : ℕ) → is_ended_job (own_job book.jobs caller number) ≡ false → IsQuiet book (Fetch caller number)
fetch-quiet book caller number goes =
    let told = fetch-none number (own_job book.jobs caller number) goes in
    record { jobs = refl; tells = told.0; flags = told.1; old = told.2 }

ended-there : (own : Option JobOf) → is_ended_job own ≡ true → (job : JobOf) × (own ≡ Some job) × (is_open job ≡ false)
ended-there None ended = absurd (cc)
ended-there (Some job) ended = (job, refl, not-true (is_open job) ended)

pub fetch-tells_end : (book : BookOf) (caller number : ℕ) → is_ended_job (own_job book.jobs caller number) ≡ true → TellsEnd book (Fetch caller number) number
fetch-tells_end book caller number ended =
    let there = ended-there (own_job book.jobs caller number) ended in
    let job = there.0 in
    let told : reply_of book (Fetch caller number) ≡ reply.State number (shown_stage job.stage) = ap (fetch_told number) there.1 in
    let shown = shown-ended job.owner job.asked job.last_turn job.stage there.2 in
    let within = own-within book.jobs caller number job there.1 in
    record {
      jobs = refl;
      low = within.0;
      high = within.1;
      tells = subst (λ r. TellsOne r number) (sym told) (state-tells number (shown_stage job.stage) shown);
      flags = λ flags. ap (flags_after flags) told ∙ ap (λ b. cond b (slice_set flags (number - 1) true) flags) shown;
      old = subst (λ r. IsNewJob r → ⊥) (sym told) (λ new. new);
    }

-- ---- any call

pub effect : (book : BookOf) (c : Call) → IsQuiet book c ⊎ Begins book c ⊎ ((number : ℕ) × TellsEnd book c number)
effect book (Submit caller asked) = go (is_some (refusal_of book caller)) refl
  where
    go : (b : Bool) → is_some (refusal_of book caller) ≡ b → IsQuiet book (Submit caller asked) ⊎ Begins book (Submit caller asked) ⊎ ((number : ℕ) × TellsEnd book (Submit caller asked) number)
    go true is = inl (submit-quiet book caller asked is)
    go false is = inr (inl (submit-begins book caller asked is))
effect book (Claim worker) = inl (claim-quiet book worker)
effect book (Finish worker number claim outcome) = inl (finish-quiet book worker number claim outcome)
effect book (Cancel caller number) = go (is_open_job (own_job book.jobs caller number)) refl
  where
    go : (b : Bool) → is_open_job (own_job book.jobs caller number) ≡ b → IsQuiet book (Cancel caller number) ⊎ Begins book (Cancel caller number) ⊎ ((k : ℕ) × TellsEnd book (Cancel caller number) k)
    go true is = inr (inr (number, cancel-tells_end book caller number is))
    go false is = inl (cancel-quiet book caller number is)
effect book (Fetch caller number) = go (is_ended_job (own_job book.jobs caller number)) refl
  where
    go : (b : Bool) → is_ended_job (own_job book.jobs caller number) ≡ b → IsQuiet book (Fetch caller number) ⊎ Begins book (Fetch caller number) ⊎ ((k : ℕ) × TellsEnd book (Fetch caller number) k)
    go true is = inr (inr (number, fetch-tells_end book caller number is))
    go false is = inl (fetch-quiet book caller number is)
effect book Shut = inl (shut-quiet book)

-- ---- one event later

-- the journal with the event of the call
abbrev pub with_event : BookOf → List EventOf → ℕ → Call → List EventOf
with_event book es caller c = es ++ event caller c (reply_of book c) ∷ []

pub flags-more : (book : BookOf) (es : List EventOf) (caller : ℕ) (c : Call) (flags : List Bool) → TellsOfJobs (length book.jobs) es → AreFlags flags (length book.jobs) es
    → AreFlags (flags_after flags (reply_of book c)) (length (after book c).jobs) (with_event book es caller c)
flags-more book es caller c flags of_jobs f =
    let e = event caller c (reply_of book c) in
    elim (effect book c) [
      | inl q ↦
          subst (λ n. AreFlags (flags_after flags (reply_of book c)) n (es ++ e ∷ [])) (sym q.jobs)
          (subst (λ fs. AreFlags fs (length book.jobs) (es ++ e ∷ [])) (sym (q.flags flags)) (flags-kept flags (length book.jobs) es e q.tells f))
      | inr (inl b) ↦
          subst (λ n. AreFlags (flags_after flags (reply_of book c)) n (es ++ e ∷ [])) (sym b.jobs)
          (subst (λ fs. AreFlags fs (length book.jobs + 1) (es ++ e ∷ [])) (sym (b.flags flags)) (flags-pushed flags (length book.jobs) es e b.tells of_jobs f))
      | inr (inr t) ↦
          subst (λ n. AreFlags (flags_after flags (reply_of book c)) n (es ++ e ∷ [])) (sym t.1.jobs)
          (subst (λ fs. AreFlags fs (length book.jobs) (es ++ e ∷ [])) (sym (t.1.flags flags)) (flags-told flags (length book.jobs) t.0 es e t.1.low t.1.high t.1.tells f))
    ]

pub of-jobs-more : (book : BookOf) (es : List EventOf) (caller : ℕ) (c : Call) → TellsOfJobs (length book.jobs) es → TellsOfJobs (length (after book c).jobs) (with_event book es caller c)
of-jobs-more book es caller c of_jobs =
    let e = event caller c (reply_of book c) in
    elim (effect book c) [
      | inl q ↦ of-jobs-kept (length book.jobs) (length (after book c).jobs) es e (omega (arith, q.jobs)) q.tells of_jobs
      | inr (inl b) ↦ of-jobs-kept (length book.jobs) (length (after book c).jobs) es e (omega (arith, b.jobs)) b.tells of_jobs
      | inr (inr t) ↦ subst (λ n. TellsOfJobs n (es ++ e ∷ [])) (sym t.1.jobs) (of-jobs-told (length book.jobs) t.0 es e t.1.high t.1.tells of_jobs)
    ]

-- as many jobs as there may be
pub jobs-within : (book : BookOf) (c : Call) → length book.jobs ≤ book.limits.jobs → length (after book c).jobs ≤ book.limits.jobs
jobs-within book c within = elim (effect book c) [
  | inl q ↦ omega (arith, q.jobs, within)
  | inr (inl b) ↦ omega (arith, b.jobs, b.room)
  | inr (inr t) ↦ omega (arith, t.1.jobs, within)
]

-- there is room for a job that begins
pub new-within : (book : BookOf) (c : Call) → IsNewJob (reply_of book c) → length book.jobs < book.limits.jobs
new-within book c new = elim (effect book c) [
  | inl q ↦ absurd (q.old new)
  | inr (inl b) ↦ b.room
  | inr (inr t) ↦ absurd (t.1.old new)
]

-- ---- how many are left, by what the call does

pub untold-quiet : (book : BookOf) (es : List EventOf) (c : Call) (left : ℕ) → IsQuiet book c → left ≡ untold (length book.jobs) es
    → (caller : ℕ) → left ≡ untold (length (after book c).jobs) (with_event book es caller c)
untold-quiet book es c left q is caller =
    let e = event caller c (reply_of book c) in
    is ∙ sym (untold-kept (length book.jobs) es e (λ number le. q.tells number)) ∙ ap (λ n. untold n (es ++ e ∷ [])) (sym q.jobs)

pub untold-begins : (book : BookOf) (es : List EventOf) (c : Call) (left : ℕ) → Begins book c → TellsOfJobs (length book.jobs) es → left ≡ untold (length book.jobs) es
    → (caller : ℕ) → left + 1 ≡ untold (length (after book c).jobs) (with_event book es caller c)
untold-begins book es c left b of_jobs is caller =
    let e = event caller c (reply_of book c) in
    let n = length book.jobs in
    let kept = untold-kept n es e (λ number le. b.tells number) in
    let more = untold-suc n (es ++ e ∷ []) in
    let none : is_told (n + 1) (es ++ e ∷ []) ≡ false = of-jobs-kept n n es e (omega arith) b.tells of_jobs (n + 1) (omega arith) in
    let one : ◌≡◌ {A = ℕ} (cond (is_told (n + 1) (es ++ e ∷ [])) 0 1) 1 = ap {B = ℕ} (λ t. cond t 0 1) none in
    let all : untold (n + 1) (es ++ e ∷ []) ≡ left + 1 = omega (arith, more, kept, one, is) in
    sym all ∙ ap (λ k. untold k (es ++ e ∷ [])) (sym b.jobs)

pub untold-ends : (book : BookOf) (es : List EventOf) (c : Call) (number left : ℕ) → TellsEnd book c number → left + cond (is_told number es) 0 1 ≡ untold (length book.jobs) es
    → (caller : ℕ) → left ≡ untold (length (after book c).jobs) (with_event book es caller c)
untold-ends book es c number left t is caller =
    let e = event caller c (reply_of book c) in
    let step = untold-told (length book.jobs) number es e t.low t.high t.tells in
    let same : left ≡ untold (length book.jobs) (es ++ e ∷ []) = omega (arith, step, is) in
    same ∙ ap (λ n. untold n (es ++ e ∷ [])) (sym t.jobs)
