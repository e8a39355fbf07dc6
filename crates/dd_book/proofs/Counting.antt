-- How many parts of open jobs wait and run: what a change of the list does to the sums.
use Rattle.std.proofs.Common.{◌≡◌, ℕ, zero, suc, ◌+◌, ◌-◌, ◌≤◌, Bool, true, false, cond, refl, sym, ap, ◌∙◌, subst, arith, List, [], ◌∷◌, ◌++◌, length, inl, inr, Some, None}
use Rattle.std.specs.Prelude.{Option, option_and_then, option_map, unwrap_or, slice_get, slice_set, MatchOption, ◌&&◌, ◌⊎◌, ◌==◌}
use Rattle.std.specs.Option.{is_some}
use Rattle.std.specs.List.{count_by, list_all, position}
use Rattle.std.proofs.lemmas.List.Sums.{get_or-le-sum_by, sum_by-cons, sum_by-set, sum_by_push}
use Rattle.std.proofs.lemmas.Option.{cond_some, get_or_from_slice_get, same_Some, slice_get_within}
use Rattle.dd_cards.specs.Same.{same_hands}
use Rattle.dd_play.specs.Board.{tricks_left}
use Rattle.dd_request.specs.Plays as plays
use Rattle.dd_request.specs.Plays.{position_at, trace, tricks_after}
use Rattle.dd_request.specs.Results.{hands_results}
use Rattle.dd_request.specs.Same.{same_question, same_target}
use Rattle.dd_request.specs.declared.asked.Asked.{Asked}
use Rattle.dd_request.specs.declared.asked.Asked.TheVariants.{Solve, Table, Target, Play}
use Rattle.dd_book.specs.declared.call.Outcome.{Outcome}
use Rattle.dd_book.specs.declared.call.Outcome.TheVariants.{Solved as SolvedOutcome, Part as PartOutcome, Target as TargetOutcome, PlayPart as PlayPartOutcome, Spent as SpentOutcome, Stopped}
use Rattle.dd_book.specs.declared.job.Stage.{Stage}
use Rattle.dd_book.specs.declared.job.Stage.TheVariants.{Open, Done, TableDone, TargetDone, PlayDone, Cancelled, Spent}
use Rattle.dd_book.specs.declared.part_counts.PartCounts.{PartCounts}
use Rattle.dd_book.specs.declared.parts.Part.{Part}
use Rattle.dd_book.specs.declared.parts.Part.TheVariants.{Waiting, Running, Ended, Number}
use Rattle.dd_book.specs.Counts.{counts_in, parts_in, running_in, waiting_in}
use Rattle.dd_book.specs.Next.{next_part, waits_at}
use Rattle.dd_book.specs.Parts.{all_waiting, is_ended, is_running, is_waiting, runs_by}
use Rattle.dd_book.specs.Jobs.{ArePartsOf, IsOwn, JobOf, Turn, chosen, first_parts, is_of_play, is_open, job_after, job_at, job_with, last_part, next_turn, own_job, parts_of, play_stage, stage_after, table_stage, turn, turn_at, turn_of, with_claim, with_job, with_stage}
use Rattle.dd_book.specs.Calls.{jobs_after_finish, jobs_cancelled}
use Rattle.dd_book.proofs.AsksKept.{own-is, there}
use Rattle.dd_book.proofs.Finishes.{position-there}
use Rattle.dd_book.proofs.NextPart.{next-waits}
use Rattle.dd_book.proofs.Turns.{due-at}
use Rattle.std.proofs.lemmas.Bool.{and_parts}

abbrev pair : ℕ → ℕ → PartCounts
pair waits runs = record { waiting = waits; running = runs }

-- two numbers are the counts of the jobs
pub counts-are : (counts : PartCounts) (jobs : List JobOf) → counts.waiting ≡ waiting_in jobs → counts.running ≡ running_in jobs → counts ≡ counts_in jobs
counts-are counts jobs waits runs = ap (λ (n : ℕ). pair n counts.running) waits ∙ ap (pair (waiting_in jobs)) runs

-- ---- the parts of one job

-- what a part adds
abbrev pub one : (Part → Bool) → Part → ℕ
one test part = cond (test part) 1 0

-- another part in a part's place
count-set : (test : Part → Bool) (parts : List Part) (place : ℕ) (was now : Part) → slice_get parts place ≡ Some was
    → count_by test (slice_set parts place now) + one test was ≡ count_by test parts + one test now
count-set test parts place was now here =
    subst (λ (v : Part). count_by test (slice_set parts place now) + one test v ≡ count_by test parts + one test now)
    (get_or_from_slice_get parts place was was here)
    (sum_by-set (one test) parts place now was (slice_get_within parts place was here))

-- each part that passes counts
count-least : (test : Part → Bool) (parts : List Part) (place : ℕ) (was : Part) → slice_get parts place ≡ Some was → one test was ≤ count_by test parts
count-least test parts place was here =
    subst (λ (v : Part). one test v ≤ count_by test parts)
    (get_or_from_slice_get parts place was was here)
    (get_or-le-sum_by (one test) parts place was (slice_get_within parts place was here))

-- the only part
count-only : (test : Part → Bool) (parts : List Part) (place : ℕ) (p : Part) → length parts ≡ 1 → slice_get parts place ≡ Some p → count_by test parts ≡ one test p
count-only test [] place p single here = absurd (cc)
count-only test (q ∷ []) zero p single here = let same = ap (one test) (same_Some q p here) in omega arith
count-only test (q ∷ []) (suc place) p single here = absurd (cc)
count-only test (q ∷ r ∷ parts) place p single here = absurd (omega arith)

-- no part that has ended passes the test
abbrev pub PassesNoEnded : (Part → Bool) → Type 0
PassesNoEnded test = (p : Part) → is_ended p ≡ true → test p ≡ false

pub waiting-not_ended : PassesNoEnded is_waiting
waiting-not_ended Waiting h = absurd (cc)
waiting-not_ended (Running worker claim) h = refl
waiting-not_ended (Ended solved) h = refl
waiting-not_ended (Number tricks) h = refl

pub running-not_ended : PassesNoEnded is_running
running-not_ended Waiting h = refl
running-not_ended (Running worker claim) h = absurd (cc)
running-not_ended (Ended solved) h = refl
running-not_ended (Number tricks) h = refl

-- so none does where all have ended
count-ended : (test : Part → Bool) (parts : List Part) → PassesNoEnded test → list_all is_ended parts ≡ true → count_by test parts ≡ 0
count-ended test [] fails all = refl
count-ended test (p ∷ parts) fails all =
    let ended = and_parts (is_ended p) (list_all is_ended parts) all in
    let none : one test p ≡ 0 = rw (fails p ended.0) refl in
    let rest = count-ended test parts fails ended.1 in
    sum_by-cons (one test) p parts ∙ (omega arith)

-- all of so many that wait
pub count-waiting : (n : ℕ) → count_by is_waiting (all_waiting n) ≡ n
count-waiting zero = refl
count-waiting (suc n) = let rest = count-waiting n in sum_by-cons (one is_waiting) Waiting (all_waiting n) ∙ (omega arith)

-- and none of them runs
count-running : (n : ℕ) → count_by is_running (all_waiting n) ≡ 0
count-running zero = refl
count-running (suc n) = let rest = count-running n in sum_by-cons (one is_running) Waiting (all_waiting n) ∙ (omega arith)

-- ---- a new job

-- the parts of a play
pub first-play : (test : Part → Bool) (play : plays.Play) → count_by test (first_parts (Play play)) ≡ count_by test (all_waiting (length play.cards)) + one test (last_part play)
first-play test play = sum_by_push (one test) (all_waiting (length play.cards)) (last_part play)

-- where its last number is known
pub first-known : (play : plays.Play) (tricks : ℕ) → Number tricks ≡ last_part play → length play.cards ≡ count_by is_waiting (first_parts (Play play))
first-known play tricks known =
    let waits = count-waiting (length play.cards) in
    let last : one is_waiting (last_part play) ≡ 0 = ap (one is_waiting) (sym known) in
    omega (arith, first-play is_waiting play)

-- and where it isn't
pub first-open : (play : plays.Play) → last_part play ≡ Waiting → length play.cards + 1 ≡ count_by is_waiting (first_parts (Play play))
first-open play open_yet =
    let waits = count-waiting (length play.cards) in
    let last : one is_waiting (last_part play) ≡ 1 = ap (one is_waiting) open_yet in
    omega (arith, first-play is_waiting play)

last-runs_not : (play : plays.Play) → one is_running (last_part play) ≡ 0
last-runs_not play = go (tricks_left (position_at play (length play.cards)) == 0)
  where
    go : (b : Bool) → one is_running (cond b (Number (tricks_after play (length play.cards))) Waiting) ≡ 0
    go true = refl
    go false = refl

-- no part of a new job runs
pub first-runs_not : (asked : Asked) → count_by is_running (first_parts asked) ≡ 0
first-runs_not (Solve question) = count-running 1
first-runs_not (Target question) = count-running 1
first-runs_not (Table hands) = count-running 20
first-runs_not (Play play) =
    let none = count-running (length play.cards) in
    let last = last-runs_not play in
    omega (arith, first-play is_running play)

-- ---- a part ends

-- what is left of a table or a play whose parts are these: none that passes where each has ended
count-left : (test : Part → Bool) (done : Stage) (parts : List Part) (all : Bool) → PassesNoEnded test → parts_of done ≡ [] → list_all is_ended parts ≡ all
    → count_by test (parts_of (cond all done (Open parts))) ≡ count_by test parts
count-left test done parts true fails none all = ap (count_by test) none ∙ sym (count-ended test parts fails all)
count-left test done parts false fails none all = refl

-- a part ends: with its job, or as many pass as before but for it
abbrev Ends : (Part → Bool) → Asked → List Part → Part → Outcome → Stage → Type 0
Ends test asked parts p outcome stage =
    ((parts_of stage ≡ []) × ((outcome ≡ SpentOutcome → ⊥) → ArePartsOf asked parts → length parts ≡ 1)) ⊎ (count_by test (parts_of stage) + one test p ≡ count_by test parts)

stage-ends : (test : Part → Bool) (asked : Asked) (parts : List Part) (place : ℕ) (p : Part) (outcome : Outcome) (stage : Stage) → PassesNoEnded test → slice_get parts place ≡ Some p → (outcome ≡ Stopped → ⊥)
    → stage_after asked parts place outcome ≡ Some stage → Ends test asked parts p outcome stage
stage-ends test (Solve question) parts place p (SolvedOutcome solved) stage fails here other is =
    inl (ap parts_of (sym (cond_some (same_question question solved.asked) (Done solved) stage is).1), λ spent own. own.0)
stage-ends test (Table hands) parts place p (SolvedOutcome solved) stage fails here other is = absurd (cc)
stage-ends test (Target question) parts place p (SolvedOutcome solved) stage fails here other is = absurd (cc)
stage-ends test (Play play) parts place p (SolvedOutcome solved) stage fails here other is = absurd (cc)
stage-ends test (Solve question) parts place p (TargetOutcome solved) stage fails here other is = absurd (cc)
stage-ends test (Table hands) parts place p (TargetOutcome solved) stage fails here other is = absurd (cc)
stage-ends test (Target question) parts place p (TargetOutcome solved) stage fails here other is =
    inl (ap parts_of (sym (cond_some (same_target question solved.asked) (TargetDone solved) stage is).1), λ spent own. own.0)
stage-ends test (Play play) parts place p (TargetOutcome solved) stage fails here other is = absurd (cc)
stage-ends test (Solve question) parts place p (PartOutcome solved) stage fails here other is = absurd (cc)
stage-ends test (Table hands) parts place p (PartOutcome solved) stage fails here other is =
    let now : Part = Ended solved in
    let set = slice_set parts place now in
    let done = (cond_some (same_hands hands solved.hands && (solved.part == place)) (table_stage hands set) stage is).1 in
    let left : count_by test (parts_of stage) ≡ count_by test set = ap (λ (s : Stage). count_by test (parts_of s)) (sym done) ∙ count-left test (TableDone (hands_results hands)) set (list_all is_ended set) fails refl refl in
    let put = count-set test parts place p now here in
    let ended : one test now ≡ 0 = rw (fails now refl) refl in
    inr (omega arith)
stage-ends test (Target question) parts place p (PartOutcome solved) stage fails here other is = absurd (cc)
stage-ends test (Play play) parts place p (PartOutcome solved) stage fails here other is = absurd (cc)
stage-ends test (Solve question) parts place p (PlayPartOutcome solved) stage fails here other is = absurd (cc)
stage-ends test (Table hands) parts place p (PlayPartOutcome solved) stage fails here other is = absurd (cc)
stage-ends test (Target question) parts place p (PlayPartOutcome solved) stage fails here other is = absurd (cc)
stage-ends test (Play play) parts place p (PlayPartOutcome solved) stage fails here other is =
    let now : Part = Number (tricks_after play place) in
    let set = slice_set parts place now in
    let done = (cond_some (is_of_play play place solved) (play_stage play set) stage is).1 in
    let left : count_by test (parts_of stage) ≡ count_by test set = ap (λ (s : Stage). count_by test (parts_of s)) (sym done) ∙ count-left test (PlayDone (trace play)) set (list_all is_ended set) fails refl refl in
    let put = count-set test parts place p now here in
    let ended : one test now ≡ 0 = rw (fails now refl) refl in
    inr (omega arith)
stage-ends test asked parts place p SpentOutcome stage fails here other is = inl (ap parts_of (sym (same_Some Spent stage is)), λ spent own. absurd (spent refl))
stage-ends test asked parts place p Stopped stage fails here other is = absurd (other refl)

-- it was one of those that pass, or more of them go with its job
pub ends-least : (test : Part → Bool) (asked : Asked) (parts : List Part) (place : ℕ) (p : Part) (outcome : Outcome) (stage : Stage) → PassesNoEnded test → slice_get parts place ≡ Some p → (outcome ≡ Stopped → ⊥)
    → stage_after asked parts place outcome ≡ Some stage → count_by test (parts_of stage) + one test p ≤ count_by test parts
ends-least test asked parts place p outcome stage fails here other is = elim (stage-ends test asked parts place p outcome stage fails here other is) [
  | inl gone ↦
      let none : count_by test (parts_of stage) ≡ 0 = ap (count_by test) gone.0 in
      let least = count-least test parts place p here in
      omega arith
  | inr left ↦ omega arith
]

-- where the parts are those of the job and it isn't given up, no more than that one goes
ends-one : (test : Part → Bool) (asked : Asked) (parts : List Part) (place : ℕ) (p : Part) (outcome : Outcome) (stage : Stage) → PassesNoEnded test → slice_get parts place ≡ Some p → (outcome ≡ Stopped → ⊥) → (outcome ≡ SpentOutcome → ⊥)
    → ArePartsOf asked parts → stage_after asked parts place outcome ≡ Some stage → count_by test (parts_of stage) + one test p ≡ count_by test parts
ends-one test asked parts place p outcome stage fails here other spent own is = elim (stage-ends test asked parts place p outcome stage fails here other is) [
  | inl gone ↦
      let none : count_by test (parts_of stage) ≡ 0 = ap (count_by test) gone.0 in
      let only = count-only test parts place p (gone.1 spent own) here in
      omega arith
  | inr left ↦ left
]

-- ---- jobs

-- what a job adds
abbrev pub of_job : (Part → Bool) → JobOf → ℕ
of_job test job = count_by test (parts_of job.stage)

-- another job in a job's place
jobs-set : (test : Part → Bool) (jobs : List JobOf) (place : ℕ) (was job : JobOf) → slice_get jobs place ≡ Some was
    → parts_in test (slice_set jobs place job) + of_job test was ≡ parts_in test jobs + of_job test job
jobs-set test jobs place was job here =
    subst (λ (v : JobOf). parts_in test (slice_set jobs place job) + of_job test v ≡ parts_in test jobs + of_job test job)
    (get_or_from_slice_get jobs place was was here)
    (sum_by-set (of_job test) jobs place job was (slice_get_within jobs place was here))

-- one more job
pub jobs-push : (test : Part → Bool) (jobs : List JobOf) (job : JobOf) → parts_in test (jobs ++ job ∷ []) ≡ parts_in test jobs + of_job test job
jobs-push test jobs job = sum_by_push (of_job test) jobs job

-- a job goes to another stage
stage-set : (test : Part → Bool) (jobs : List JobOf) (number : ℕ) (job : JobOf) (stage : Stage) → job_at jobs number ≡ Some job
    → parts_in test (slice_set jobs (number - 1) (with_stage job stage)) + of_job test job ≡ parts_in test jobs + count_by test (parts_of stage)
stage-set test jobs number job stage here = jobs-set test jobs (number - 1) job (with_stage job stage) (there jobs number job here)

-- a job that isn't open has no parts
count-closed : (test : Part → Bool) (owner : ℕ) (asked : Asked) (last : ℕ) (stage : Stage) → is_open (record { owner = owner; asked = asked; stage = stage; last_turn = last }) ≡ false → count_by test (parts_of stage) ≡ 0
count-closed test owner asked last (Open parts) h = absurd (cc)
count-closed test owner asked last (Done solved) h = refl
count-closed test owner asked last (TableDone table) h = refl
count-closed test owner asked last (TargetDone solved) h = refl
count-closed test owner asked last (PlayDone tricks) h = refl
count-closed test owner asked last Cancelled h = refl
count-closed test owner asked last Spent h = refl

-- ---- claims

-- the part that is claimed next is that of its job
pub turn-part : (jobs : List JobOf) (t : Turn) → next_turn jobs ≡ Some t → next_part t.job.asked (parts_of t.job.stage) ≡ Some t.part
turn-part jobs t h = first (chosen jobs) h
  where
    of_part : (place : ℕ) (job : JobOf) (o : Option ℕ) → next_part job.asked (parts_of job.stage) ≡ o → option_map (turn place job) o ≡ Some t → next_part t.job.asked (parts_of t.job.stage) ≡ Some t.part
    of_part place job None is e = absurd (cc)
    of_part place job (Some part) is e = subst (λ (u : Turn). next_part u.job.asked (parts_of u.job.stage) ≡ Some u.part) (same_Some (turn place job part) t e) is

    at_place : (place : ℕ) (o : Option JobOf) → option_and_then (turn_of place) o ≡ Some t → next_part t.job.asked (parts_of t.job.stage) ≡ Some t.part
    at_place place None e = absurd (cc)
    at_place place (Some job) e = of_part place job (next_part job.asked (parts_of job.stage)) refl e

    first : (o : Option ℕ) → option_and_then (turn_at jobs) o ≡ Some t → next_part t.job.asked (parts_of t.job.stage) ≡ Some t.part
    first None e = absurd (cc)
    first (Some place) e = at_place place (slice_get jobs place) e

-- a part that waits is there
waits-there : (parts : List Part) (place : ℕ) → waits_at parts place ≡ true → (p : Part) × (slice_get parts place ≡ Some p) × (is_waiting p ≡ true)
waits-there parts place h = go (slice_get parts place) refl h
  where
    go : (o : Option Part) → slice_get parts place ≡ o → elim o [ None ↦ false | Some part ↦ is_waiting part ] ≡ true → (p : Part) × (slice_get parts place ≡ Some p) × (is_waiting p ≡ true)
    go None is e = absurd (cc)
    go (Some p) is e = (p, is, e)

waits-runs_not : (p : Part) → is_waiting p ≡ true → is_running p ≡ false
waits-runs_not Waiting h = refl
waits-runs_not (Running worker claim) h = absurd (cc)
waits-runs_not (Ended solved) h = refl
waits-runs_not (Number tricks) h = refl

-- one part that waited runs
pub claim-counts : (jobs : List JobOf) (t : Turn) (worker claim : ℕ) → next_turn jobs ≡ Some t
    → (waiting_in (with_job jobs t.number (with_claim t.job t.part worker claim)) + 1 ≡ waiting_in jobs)
    × (running_in (with_job jobs t.number (with_claim t.job t.part worker claim)) ≡ running_in jobs + 1)
claim-counts jobs t worker claim is =
    let at = due-at jobs t is in
    let here : slice_get jobs (t.number - 1) ≡ Some t.job = ap (slice_get jobs) (omega (arith, at.1)) ∙ at.3 in
    let parts = parts_of t.job.stage in
    let p = waits-there parts t.part (next-waits t.job.asked parts t.part (turn-part jobs t is)) in
    let waited : one is_waiting p.0 ≡ 1 = rw p.2 refl in
    let ran_not : one is_running p.0 ≡ 0 = rw (waits-runs_not p.0 p.2) refl in
    let now = with_claim t.job t.part worker claim in
    let waits = jobs-set is_waiting jobs (t.number - 1) t.job now here in
    let waits_part = count-set is_waiting parts t.part p.0 (Running worker claim) p.1 in
    let runs = jobs-set is_running jobs (t.number - 1) t.job now here in
    let runs_part = count-set is_running parts t.part p.0 (Running worker claim) p.1 in
    (omega arith, omega arith)

-- some turn is next, or none, as this test says
pub turn-there : (jobs : List JobOf) (b : Bool) → MatchOption (next_turn jobs) (b ≡ false) (λ (t : Turn). b ≡ true) → b ≡ true → (t : Turn) × (next_turn jobs ≡ Some t)
turn-there jobs b told is_so = go (next_turn jobs) refl told
  where
    go : (o : Option Turn) → next_turn jobs ≡ o → MatchOption o (b ≡ false) (λ (t : Turn). b ≡ true) → (t : Turn) × (next_turn jobs ≡ Some t)
    go None is h = absurd (cc)
    go (Some t) is h = (t, is)

-- ---- finishes

runs-there : (worker claim : ℕ) (p : Part) → runs_by worker claim p ≡ true → (is_waiting p ≡ false) × (is_running p ≡ true)
runs-there worker claim Waiting h = absurd (cc)
runs-there worker claim (Running w c) h = (refl, refl)
runs-there worker claim (Ended solved) h = absurd (cc)
runs-there worker claim (Number tricks) h = absurd (cc)

-- the part that runs by this worker under this claim number
pub part-runs : (worker claim : ℕ) (parts : List Part) (place : ℕ) → position (runs_by worker claim) parts ≡ Some place
    → (p : Part) × (slice_get parts place ≡ Some p) × (one is_waiting p ≡ 0) × (one is_running p ≡ 1)
part-runs worker claim parts place runs =
    let at = position-there (runs_by worker claim) parts place runs in
    let is = runs-there worker claim at.0 at.2 in
    (at.0, at.1, rw is.0 refl, rw is.1 refl)

-- the parts of a job that has one are those of its request
own-parts : (asked : Asked) (stage : Stage) (place : ℕ) (p : Part) → slice_get (parts_of stage) place ≡ Some p → IsOwn asked stage → ArePartsOf asked (parts_of stage)
own-parts asked (Open parts) place p here own = own
own-parts asked (Done solved) place p here own = absurd (cc)
own-parts asked (TableDone table) place p here own = absurd (cc)
own-parts asked (TargetDone solved) place p here own = absurd (cc)
own-parts asked (PlayDone tricks) place p here own = absurd (cc)
own-parts asked Cancelled place p here own = absurd (cc)
own-parts asked Spent place p here own = absurd (cc)

-- the jobs after a finish of this worker's part of a job
abbrev pub finished : List JobOf → ℕ → ℕ → ℕ → Outcome → List JobOf
finished jobs worker number claim outcome = unwrap_or (jobs_after_finish jobs worker number claim outcome) jobs

finish-staged : (jobs : List JobOf) (worker number claim part : ℕ) (outcome : Outcome) (job : JobOf) (o : Option Stage) → job_at jobs number ≡ Some job
    → position (runs_by worker claim) (parts_of job.stage) ≡ Some part → stage_after job.asked (parts_of job.stage) part outcome ≡ o
    → jobs_after_finish jobs worker number claim outcome ≡ option_map (with_job jobs number) (option_map (with_stage job) o)
finish-staged jobs worker number claim part outcome job o here runs is =
    ap (λ (j : Option JobOf). option_map (with_job jobs number) (option_and_then (job_after worker claim outcome) j)) here
    ∙ ap (λ (k : Option ℕ). option_map (with_job jobs number) (option_and_then (job_with job outcome) k)) runs
    ∙ ap (λ (s : Option Stage). option_map (with_job jobs number) (option_map (with_stage job) s)) is

-- a stage is there where the outcome is recorded
pub stage-there : (o : Option Stage) (recorded : Bool) → recorded ≡ is_some o → recorded ≡ true → (stage : Stage) × (o ≡ Some stage)
stage-there None recorded is h = absurd (cc)
stage-there (Some stage) recorded is h = (stage, refl)

module _ (jobs : List JobOf) (worker number claim part : ℕ) (job : JobOf) (here : job_at jobs number ≡ Some job) (runs : position (runs_by worker claim) (parts_of job.stage) ≡ Some part) where
  -- the outcome is of something else
  pub finish-stale : (outcome : Outcome) → stage_after job.asked (parts_of job.stage) part outcome ≡ None → finished jobs worker number claim outcome ≡ jobs
  finish-stale outcome is = ap (λ (js : Option (List JobOf)). unwrap_or js jobs) (finish-staged jobs worker number claim part outcome job None here runs is)

  finish-set : (test : Part → Bool) (outcome : Outcome) (stage : Stage) → stage_after job.asked (parts_of job.stage) part outcome ≡ Some stage
      → parts_in test (finished jobs worker number claim outcome) + of_job test job ≡ parts_in test jobs + count_by test (parts_of stage)
  finish-set test outcome stage is =
      subst (λ (js : Option (List JobOf)). parts_in test (unwrap_or js jobs) + of_job test job ≡ parts_in test jobs + count_by test (parts_of stage))
      (sym (finish-staged jobs worker number claim part outcome job (Some stage) here runs is))
      (stage-set test jobs number job stage here)

  -- the part waits again
  pub finish-stopped : (waiting_in (finished jobs worker number claim Stopped) ≡ waiting_in jobs + 1) × (running_in (finished jobs worker number claim Stopped) + 1 ≡ running_in jobs)
  finish-stopped =
      let parts = parts_of job.stage in
      let p = part-runs worker claim parts part runs in
      let stage : Stage = Open (slice_set parts part Waiting) in
      let waits = finish-set is_waiting Stopped stage refl in
      let waits_part = count-set is_waiting parts part p.0 Waiting p.1 in
      let ran = finish-set is_running Stopped stage refl in
      let ran_part = count-set is_running parts part p.0 Waiting p.1 in
      (omega (arith, p.2, p.3), omega (arith, p.2, p.3))

  -- the job is given up: all its parts go
  pub finish-spent : (test : Part → Bool) → parts_in test (finished jobs worker number claim SpentOutcome) + of_job test job ≡ parts_in test jobs
  finish-spent test = let all = finish-set test SpentOutcome Spent refl in omega arith

  -- one that ran has ended, and no other goes
  pub finish-ended : (outcome : Outcome) (stage : Stage) → (outcome ≡ Stopped → ⊥) → (outcome ≡ SpentOutcome → ⊥) → IsOwn job.asked job.stage → stage_after job.asked (parts_of job.stage) part outcome ≡ Some stage
      → (waiting_in (finished jobs worker number claim outcome) ≡ waiting_in jobs) × (running_in (finished jobs worker number claim outcome) + 1 ≡ running_in jobs)
  finish-ended outcome stage other spent own is =
      let parts = parts_of job.stage in
      let p = part-runs worker claim parts part runs in
      let of_request = own-parts job.asked job.stage part p.0 p.1 own in
      let waits = finish-set is_waiting outcome stage is in
      let waits_part = ends-one is_waiting job.asked parts part p.0 outcome stage waiting-not_ended p.1 other spent of_request is in
      let ran = finish-set is_running outcome stage is in
      let ran_part = ends-one is_running job.asked parts part p.0 outcome stage running-not_ended p.1 other spent of_request is in
      (omega (arith, p.2, p.3), omega (arith, p.2, p.3))

  -- one that ran has ended, and others may go with their job
  pub finish-least : (outcome : Outcome) (stage : Stage) → (outcome ≡ Stopped → ⊥) → stage_after job.asked (parts_of job.stage) part outcome ≡ Some stage
      → (waiting_in (finished jobs worker number claim outcome) ≤ waiting_in jobs) × (running_in (finished jobs worker number claim outcome) + 1 ≤ running_in jobs)
  finish-least outcome stage other is =
      let parts = parts_of job.stage in
      let p = part-runs worker claim parts part runs in
      let waits = finish-set is_waiting outcome stage is in
      let waits_part = ends-least is_waiting job.asked parts part p.0 outcome stage waiting-not_ended p.1 other is in
      let ran = finish-set is_running outcome stage is in
      let ran_part = ends-least is_running job.asked parts part p.0 outcome stage running-not_ended p.1 other is in
      (omega (arith, p.2, p.3), omega (arith, p.2, p.3))

-- ---- cancels

-- all parts of the caller's own job go; an ended one has none
pub cancel-counts : (test : Part → Bool) (jobs : List JobOf) (caller number : ℕ) (job : JobOf) → own_job jobs caller number ≡ Some job
    → parts_in test (jobs_cancelled jobs number (Some job)) + of_job test job ≡ parts_in test jobs
cancel-counts test jobs caller number job own = go (is_open job) refl
  where
    go : (b : Bool) → is_open job ≡ b → parts_in test (cond b (with_job jobs number (with_stage job Cancelled)) jobs) + of_job test job ≡ parts_in test jobs
    go true opened = let all = stage-set test jobs number job Cancelled (own-is jobs caller number job own) in omega arith
    go false closed = let none = count-closed test job.owner job.asked job.last_turn job.stage closed in omega arith
