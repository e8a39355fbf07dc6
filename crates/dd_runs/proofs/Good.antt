-- What holds of every world that is reached.
use Rattle.std.proofs.Common.{◌≡◌, ℕ, ◌+◌, Bool, true, false, cond, refl, sym, ap, ◌∙◌, subst, List, [], ◌∷◌, ◌++◌, Contains, Some, None, Option, ◌⊎◌, inl, inr}
use Rattle.std.specs.Prelude.{slice_get}
use Rattle.std.specs.List.{list_all}
use Rattle.std.proofs.lemmas.List.Elements.{Contains-append_left, Contains-push, Contains-push_cases}
use Rattle.dd_play.specs.Board.{Board}
use Rattle.dd_play.specs.Value.{leaders_tricks}
use Rattle.dd_request.specs.declared.asked.Asked.{Asked}
use Rattle.dd_shard.specs.Entries.{Entries, Entry, Notes, Told}
use Rattle.dd_book.specs.declared.call.Call.{Call}
use Rattle.dd_book.specs.declared.call.Call.TheVariants.{Submit}
use Rattle.dd_book.specs.declared.call.JobState.{JobState}
use Rattle.dd_book.specs.declared.call.JobState.TheVariants as shown
use Rattle.dd_book.specs.declared.call.Reply.{Reply}
use Rattle.dd_book.specs.declared.call.Reply.TheVariants.{Submitted, State}
use Rattle.dd_book.specs.declared.job.Stage.{Stage}
use Rattle.dd_book.specs.declared.job.Stage.TheVariants.{Open, Done, TableDone, TargetDone, PlayDone, Cancelled, Spent}
use Rattle.dd_book.specs.Limits.{LimitsOf}
use Rattle.dd_book.specs.Parts.{is_waiting}
use Rattle.dd_book.specs.Jobs.{JobOf, is_open, job_at, shown_stage}
use Rattle.dd_book.specs.Calls.{BookOf, after, empty_book}
use Rattle.dd_desk.specs.Events.{EventOf, IsBy, event}
use Rattle.dd_table.specs.Front.{Exact, IsExact}
use Rattle.dd_runs.specs.Worlds.{Places, World}
use Rattle.dd_runs.specs.Steps.{CarriesRight, Does, Exchanges, HoldsFor, IsAllowed, IsWithin, Step, call, get, look, note, set}
use Rattle.dd_runs.specs.Runs.{IsEmpty}
use Rattle.dd_runs.proofs.Lists.{Contains-nil, exchanged, was-there}
use Rattle.dd_runs.proofs.Jobs.{Changes, EndsRight, TellsJob, changes, number-forth}
use Rattle.dd_runs.proofs.Tables.{AlikeLaw, AllSound, get-exact, look-holds, look-sound, note-sound, set-exact}
use Rattle.dd_shard.proofs.CallerLemmas.{Contains-at}

-- what a fetch shows of a job that has ended
abbrev pub IsFinal : JobState → Type 0
IsFinal shown.Waiting = ⊥
IsFinal shown.Running = ⊥
IsFinal (shown.Done solved) = Unit {0}
IsFinal (shown.TableDone table) = Unit {0}
IsFinal (shown.TargetDone solved) = Unit {0}
IsFinal (shown.PlayDone tricks) = Unit {0}
IsFinal shown.Cancelled = Unit {0}
IsFinal shown.Spent = Unit {0}

-- Each shard is sound, each cell has its position's value, and each job ended with what is right. The journal has the submit
-- of each job, and of no other; and a final state that was fetched is that of the caller's job.
pub record IsGood (w : World) : Type 0 where
  pub sound : (s : Entries) → Contains w.shards s → AllSound s.list
  pub exact : (e : Exact) → Contains w.front (Some e) → IsExact e
  pub right : (place : ℕ) (job : JobOf) → slice_get w.book.jobs place ≡ Some job → EndsRight job.asked job.stage
  pub of_job : (place : ℕ) (job : JobOf) → slice_get w.book.jobs place ≡ Some job → Contains w.journal (event job.owner (Submit job.owner job.asked) (Submitted (place + 1)))
  pub of_submit : (k number : ℕ) (asked : Asked) → Contains w.journal (event k (Submit k asked) (Submitted number))
      → (job : JobOf) × (job_at w.book.jobs number ≡ Some job) × (job.owner ≡ k) × (job.asked ≡ asked)
  pub of_fetch : (k number : ℕ) (c : Call) (state : JobState) → Contains w.journal (event k c (State number state)) → IsFinal state
      → (job : JobOf) × (job_at w.book.jobs number ≡ Some job) × (job.owner ≡ k) × (state ≡ shown_stage job.stage)

pub empty-good : (limits : LimitsOf) (w : World) → IsEmpty limits w → IsGood w
empty-good limits w e =
    let no-job : (place : ℕ) (job : JobOf) → slice_get w.book.jobs place ≡ Some job → ⊥ = λ place job h. (let h' : slice_get (empty_book limits).jobs place ≡ Some job = subst (λ (b : BookOf). slice_get b.jobs place ≡ Some job) e.book h in cc) in
    let no-event : (v : EventOf) → Contains w.journal v → ⊥ = λ v c. Contains-nil v (subst (λ (l : List EventOf). Contains l v) e.journal c) in
    record {
      sound = λ s c d has. absurd (Contains-nil d (subst (λ (l : List Entry). Contains l d) (e.shards s c) has));
      exact = λ x c. absurd (let no : Some x ≡ None = e.front (Some x) c in cc);
      right = λ place job h. absurd (no-job place job h);
      of_job = λ place job h. absurd (no-job place job h);
      of_submit = λ k number asked c. absurd (no-event _ c);
      of_fetch = λ k number c state h final. absurd (no-event _ h);
    }

-- ---- calls

open-unfinal : (b : Bool) → IsFinal (cond b shown.Waiting shown.Running) → ⊥
open-unfinal true h = h
open-unfinal false h = h

final-stage : (owner : ℕ) (asked : Asked) (last : ℕ) (stage : Stage) → IsFinal (shown_stage stage) → (let job : JobOf = record { owner = owner; asked = asked; stage = stage; last_turn = last } in is_open job) ≡ false
final-stage owner asked last (Open parts) h = absurd (open-unfinal (list_all is_waiting parts) h)
final-stage owner asked last (Done solved) h = refl
final-stage owner asked last (TableDone table) h = refl
final-stage owner asked last (TargetDone solved) h = refl
final-stage owner asked last (PlayDone tricks) h = refl
final-stage owner asked last Cancelled h = refl
final-stage owner asked last Spent h = refl

-- a job that shows a final state has ended
final-closed : (job : JobOf) (state : JobState) → IsFinal state → state ≡ shown_stage job.stage → is_open job ≡ false
final-closed job state final is = final-stage job.owner job.asked job.last_turn job.stage (subst IsFinal is final)

-- the event of a submit by its caller
the-submit : (k : ℕ) (c : Call) (reply : Reply) (owner number : ℕ) (asked : Asked) → c ≡ Submit owner asked → IsBy k c → reply ≡ Submitted number → event k c reply ≡ event owner (Submit owner asked) (Submitted number)
the-submit k c reply owner number asked is by told =
    let same : owner ≡ k = subst (IsBy k) is by in
    λ i. event (sym same i) (is i) (told i)

-- a submit names its caller and what it asks
submit-names : (owner k : ℕ) (asked other : Asked) → Submit owner asked ≡ Submit k other → (owner ≡ k) × (asked ≡ other)
submit-names owner k asked other e = (cc, cc)

call-good : (u w : World) (k : ℕ) (c : Call) (reply : Reply) → IsGood u → IsBy k c → Changes u.book.jobs w.book.jobs c reply → w.journal ≡ u.journal ++ event k c reply ∷ [] → w.shards ≡ u.shards → w.front ≡ u.front → IsGood w
call-good u w k c reply g by ch journal shards front =
    let kept : (v : EventOf) → Contains u.journal v → Contains w.journal v = λ v h. subst (λ (l : List EventOf). Contains l v) (sym journal) (Contains-append_left u.journal (event k c reply ∷ []) v h) in
    let now : Contains w.journal (event k c reply) = subst (λ (l : List EventOf). Contains l (event k c reply)) (sym journal) (Contains-push u.journal (event k c reply)) in
    let cases : (v : EventOf) → Contains w.journal v → Contains u.journal v ⊎ (event k c reply ≡ v) = λ v h. Contains-push_cases u.journal (event k c reply) v (subst (λ (l : List EventOf). Contains l v) journal h) in
    record {
      sound = subst (λ (l : List Entries). (s : Entries) → Contains l s → AllSound s.list) (sym shards) g.sound;
      exact = subst (λ (l : List (Option Exact)). (e : Exact) → Contains l (Some e) → IsExact e) (sym front) g.exact;
      right = λ place y h. elim (ch.back place y h) [
        | inl old ↦ old.2.right (g.right place old.0 old.1)
        | inr new ↦ new.2
      ];
      of_job = λ place y h. elim (ch.back place y h) [
        | inl old ↦ kept _ (
            let was = g.of_job place old.0 old.1 in
            let same : event old.0.owner (Submit old.0.owner old.0.asked) (Submitted (place + 1)) ≡ event y.owner (Submit y.owner y.asked) (Submitted (place + 1)) =
            λ i. event (sym old.2.owner i) (Submit (sym old.2.owner i) (sym old.2.asked i)) (Submitted (place + 1)) in
            subst (Contains u.journal) same was)
        | inr new ↦ subst (Contains w.journal) (the-submit k c reply y.owner (place + 1) y.asked new.0 by new.1) now
      ];
      of_submit = λ l number asked h. elim (cases _ h) [
        | inl old ↦ (
            let was = g.of_submit l number asked old in
            let then = number-forth u.book.jobs w.book.jobs c reply ch number was.0 was.1 in
            (then.0, then.1, then.2.owner ∙ was.2, then.2.asked ∙ was.3))
        | inr new ↦ (
            let told : TellsJob w.book.jobs c (Submitted number) = subst (TellsJob w.book.jobs c) (ap (λ (v : EventOf). v.reply) new) ch.tells in
            let names = submit-names told.0.owner l told.0.asked asked (sym told.2 ∙ ap (λ (v : EventOf). v.call) new) in
            (told.0, told.1, names.0, names.1))
      ];
      of_fetch = λ l number d state h final. elim (cases _ h) [
        | inl old ↦ (
            let was = g.of_fetch l number d state old final in
            let then = number-forth u.book.jobs w.book.jobs c reply ch number was.0 was.1 in
            let same : then.0 ≡ was.0 = then.2.ended (final-closed was.0 state final was.3) in
            (then.0, then.1, then.2.owner ∙ was.2, was.3 ∙ ap (λ (x : JobOf). shown_stage x.stage) (sym same)))
        | inr new ↦ (
            let told : TellsJob w.book.jobs c (State number state) = subst (TellsJob w.book.jobs c) (ap (λ (v : EventOf). v.reply) new) ch.tells in
            let owner : told.0.owner ≡ k = subst (IsBy k) told.2 by in
            (told.0, told.1, owner ∙ ap (λ (v : EventOf). v.caller) new, told.3))
      ];
    }

-- what a call does, told of the world after it
pub call-changes : (at : Places) (u w : World) (k : ℕ) (c : Call) (reply : Reply) → CarriesRight c → Does at u (call k c reply) w → Changes u.book.jobs w.book.jobs c reply
call-changes at u w k c reply carries d =
    subst (λ (b : BookOf). Changes u.book.jobs b.jobs c reply) (sym d.1) (subst (λ (r : Reply). Changes u.book.jobs (after u.book c).jobs c r) (sym d.0) (changes u.book c carries))

-- ---- steps of the table

-- a world with the same book and journal
same-book : (u w : World) → IsGood u → w.book ≡ u.book → w.journal ≡ u.journal → ((s : Entries) → Contains w.shards s → AllSound s.list) → ((e : Exact) → Contains w.front (Some e) → IsExact e) → IsGood w
same-book u w g book journal sound exact = record {
  sound = sound;
  exact = exact;
  right = subst (λ (b : BookOf). (place : ℕ) (job : JobOf) → slice_get b.jobs place ≡ Some job → EndsRight job.asked job.stage) (sym book) g.right;
  of_job = rw (book, journal) g.of_job;
  of_submit = rw (book, journal) g.of_submit;
  of_fetch = rw (book, journal) g.of_fetch;
}

-- a shard is exchanged for one that is as sound
shards-good : (u w : World) (place : ℕ) (old new : Entries) → IsGood u → w.book ≡ u.book → w.journal ≡ u.journal → w.front ≡ u.front → Exchanges place u.shards w.shards old new
    → (AllSound old.list → AllSound new.list) → IsGood w
shards-good u w place old new g book journal front ex keeps = same-book u w g book journal
    (λ s c. elim (exchanged place u.shards w.shards old new s ex c) [
      | inl same ↦ subst (λ (t : Entries). AllSound t.list) same (keeps (g.sound old (was-there place u.shards w.shards old new ex)))
      | inr there ↦ g.sound s there
    ])
    (subst (λ (l : List (Option Exact)). (e : Exact) → Contains l (Some e) → IsExact e) (sym front) g.exact)

note-kept : (p : Board) (told : Told) (old new : Entries) → HoldsFor p told → (Notes p told old new ⊎ (new ≡ old)) → AllSound old.list → AllSound new.list
note-kept p told old new holds (inl noted) good = note-sound p told old new holds noted good
note-kept p told old new holds (inr lost) good = subst (λ (t : Entries). AllSound t.list) (sym lost) good

pub stepped : AlikeLaw → (at : Places) (u w : World) (s : Step) → IsGood u → IsAllowed at s → Does at u s w → IsGood w
stepped alike at u w (call k c reply) g a d = call-good u w k c reply g a.0 (call-changes at u w k c reply a.1 d) d.2 d.3.0 d.3.1
stepped alike at u w (look p answer) g a d =
    let ex = d.2 in
    shards-good u w (at.shard_of p) ex.0 ex.1 g d.0.0 d.0.1 d.1 ex.2 (look-sound p answer ex.0 ex.1 ex.3)
stepped alike at u w (note p told) g a d =
    let ex = d.2 in
    shards-good u w (at.shard_of p) ex.0 ex.1 g d.0.0 d.0.1 d.1 ex.2 (note-kept p told ex.0 ex.1 a.2 ex.3)
stepped alike at u w (get cell p answer) g a d = subst IsGood (sym d.0) g
stepped alike at u w (set cell p value) g a d =
    let ex = d.2 in
    same-book u w g d.0.0 d.0.1 (subst (λ (l : List Entries). (s : Entries) → Contains l s → AllSound s.list) (sym d.1) g.sound)
    (λ e c. elim (exchanged cell u.front w.front ex.0 ex.1 (Some e) ex.2 c) [
      | inl same ↦ set-exact alike p value ex.0 ex.1 a.0.0 a.1 ex.3 (λ f old. g.exact f (subst (Contains u.front) old (was-there cell u.front w.front ex.0 ex.1 ex.2))) e same
      | inr there ↦ g.exact e there
    ])

-- what a look is answered holds
pub looked : (at : Places) (u w : World) (p : Board) (told : Told) → IsGood u → IsAllowed at (look p (Some told)) → Does at u (look p (Some told)) w → IsWithin told (leaders_tricks p) × HoldsFor p told
looked at u w p told g a d =
    let ex = d.2 in
    look-holds p told ex.0 ex.1 a.0 ex.3 (g.sound ex.0 (was-there (at.shard_of p) u.shards w.shards ex.0 ex.1 ex.2))

-- and so does what a get is
pub got : (at : Places) (u w : World) (cell : ℕ) (p : Board) (value : ℕ) → IsGood u → IsAllowed at (get cell p (Some value)) → Does at u (get cell p (Some value)) w → value ≡ leaders_tricks p
got at u w cell p value g a d =
    let held = d.1 in
    get-exact p value held.0 a.0 held.2 (λ e is. g.exact e (subst (Contains u.front) is (Contains-at u.front cell held.0 held.1)))
