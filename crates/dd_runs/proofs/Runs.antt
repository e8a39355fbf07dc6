-- Runs of steps.
use Rattle.std.proofs.Common.{◌≡◌, ℕ, ◌+◌, Bool, cond, true, false, nat_eq, if◌then◌else◌, refl, sym, ap, ◌∙◌, subst, List, [], ◌∷◌, ◌++◌, map, Contains, Some, inl, inr}
use Rattle.std.specs.List.{list_all}
use Rattle.std.proofs.lemmas.Option.{same_Some}
use Rattle.dd_play.specs.Board.{Board}
use Rattle.dd_play.specs.Value.{leaders_tricks}
use Rattle.dd_request.specs.declared.asked.Asked.{Asked}
use Rattle.dd_request.specs.declared.asked.Asked.TheVariants.{Solve, Table, Target, Play}
use Rattle.dd_request.specs.Plays as plays
use Rattle.dd_request.specs.Plays.{trace}
use Rattle.dd_request.specs.Questions.{SolvedQuestion, solved_question}
use Rattle.dd_request.specs.Results.{HandsResults, hands_results}
use Rattle.dd_request.specs.Targets.{SolvedTargetQuestion, solved_target}
use Rattle.dd_shard.specs.Entries.{Told}
use Rattle.dd_book.specs.declared.call.Call.{Call}
use Rattle.dd_book.specs.declared.call.Call.TheVariants.{Submit}
use Rattle.dd_book.specs.declared.call.JobState.TheVariants as shown
use Rattle.dd_book.specs.declared.call.JobState.{JobState}
use Rattle.dd_book.specs.declared.call.Reply.{Reply}
use Rattle.dd_book.specs.declared.call.Reply.TheVariants.{Submitted, State}
use Rattle.dd_book.specs.declared.job.Stage.{Stage}
use Rattle.dd_book.specs.declared.job.Stage.TheVariants.{Open, Done, TableDone, TargetDone, PlayDone, Cancelled, Spent}
use Rattle.dd_book.specs.Limits.{LimitsOf}
use Rattle.dd_book.specs.Parts.{is_waiting}
use Rattle.dd_book.specs.Jobs.{JobOf, job_at, shown_stage}
use Rattle.dd_book.specs.Calls.{BookOf, after, empty_book, replies, reply_of, run}
use Rattle.dd_book.specs.Asks.{AllTellOwn, submitted}
use Rattle.dd_book.proofs.CallerLemmas.{tell-own}
use Rattle.dd_desk.specs.Events.{AnswersAreOwn, EventOf, IsLegal, calls_in, event, replies_in}
use Rattle.dd_desk.specs.Receipts.{receipt, receipts_from, told_by}
use Rattle.dd_runs.specs.Worlds.{Places, World}
use Rattle.dd_runs.specs.Steps.{Does, HoldsFor, IsAllowed, IsWithin, Step, call, get, look, note, set}
use Rattle.dd_runs.specs.Runs.{Headline, IsEmpty, KeepsEnded, Leads, WorldLaw, calls_of}
use Rattle.dd_runs.proofs.Lists.{Contains-cons, Contains-nil}
use Rattle.dd_runs.proofs.Jobs.{EndsRight, number-forth, place-of}
use Rattle.dd_runs.proofs.Tables.{AlikeLaw}
use Rattle.dd_runs.proofs.Good.{IsGood, call-changes, empty-good, got, looked, stepped}

-- what is known after a run from a good world
pub record Ran (u : World) (ss : List Step) (w : World) : Type 0 where
  pub good : IsGood w
  pub events : List EventOf
  pub journal : w.journal ≡ u.journal ++ events
  pub legal : replies_in events ≡ replies u.book (calls_in events)
  pub book : w.book ≡ run u.book (calls_in events)
  pub callers : (k place : ℕ) → map (told_by k) (receipts_from place events k) ≡ calls_of ss k
  pub looks : (p : Board) (told : Told) → Contains ss (look p (Some told)) → IsWithin told (leaders_tricks p) × HoldsFor p told
  pub gets : (cell : ℕ) (p : Board) (value : ℕ) → Contains ss (get cell p (Some value)) → value ≡ leaders_tricks p
  pub ended : KeepsEnded u w

append-nil : {A : Type 0} (xs : List A) → xs ≡ xs ++ []
append-nil [] = refl
append-nil (x ∷ xs) = ap (λ l. x ∷ l) (append-nil xs)

append-assoc : {A : Type 0} (xs ys zs : List A) → (xs ++ ys) ++ zs ≡ xs ++ (ys ++ zs)
append-assoc [] ys zs = refl
append-assoc (x ∷ xs) ys zs = ap (λ l. x ∷ l) (append-assoc xs ys zs)

ran-none : (u : World) → IsGood u → Ran u [] u
unfolding replies run receipts_from calls_of
ran-none u g = record {
  good = g;
  events = [];
  journal = append-nil u.journal;
  legal = refl;
  book = refl;
  callers = λ k place. refl;
  looks = λ p told c. absurd (Contains-nil _ c);
  gets = λ cell p value c. absurd (Contains-nil _ c);
  ended = λ number job h e. h;
}

-- the events of a caller, where one more stands in front
more-callers : (k j place : ℕ) (c : Call) (reply : Reply) (events : List EventOf) (ss : List Step) → ((l from : ℕ) → map (told_by l) (receipts_from from events l) ≡ calls_of ss l)
    → map (told_by j) (receipts_from place (event k c reply ∷ events) j) ≡ calls_of (call k c reply ∷ ss) j
unfolding receipts_from calls_of
more-callers k j place c reply events ss on = (elim (nat_eq k j) as (λ b. map (told_by j) (if b then receipt place c reply ∷ receipts_from (place + 1) events j else receipts_from (place + 1) events j)
    ≡ (if b then event j c reply ∷ calls_of ss j else calls_of ss j)) [
      | true ↦ ap (λ l. event j c reply ∷ l) (on j (place + 1))
      | false ↦ on j (place + 1)
    ])

ran-call : (u v w : World) (k : ℕ) (c : Call) (reply : Reply) (ss : List Step) → reply ≡ reply_of u.book c → v.book ≡ after u.book c → v.journal ≡ u.journal ++ event k c reply ∷ []
    → KeepsEnded u v → Ran v ss w → Ran u (call k c reply ∷ ss) w
unfolding replies run
ran-call u v w k c reply ss told book journal keeps n = record {
  good = n.good;
  events = event k c reply ∷ n.events;
  journal = n.journal ∙ ap (λ l. l ++ n.events) journal ∙ append-assoc u.journal (event k c reply ∷ []) n.events;
  legal = λ i. told i ∷ (n.legal ∙ ap (λ (b : BookOf). replies b (calls_in n.events)) book) i;
  book = n.book ∙ ap (λ (b : BookOf). run b (calls_in n.events)) book;
  callers = λ j place. more-callers k j place c reply n.events ss n.callers;
  looks = λ p t h. elim (Contains-cons (call k c reply) ss (look p (Some t)) h) [ inl e ↦ absurd (cc) | inr d ↦ n.looks p t d ];
  gets = λ cell p x h. elim (Contains-cons (call k c reply) ss (get cell p (Some x)) h) [ inl e ↦ absurd (cc) | inr d ↦ n.gets cell p x d ];
  ended = λ number job h e. n.ended number job (keeps number job h e) e;
}

-- a step that is no call
ran-other : (u v w : World) (s : Step) (ss : List Step) → v.book ≡ u.book → v.journal ≡ u.journal → ((k : ℕ) → calls_of (s ∷ ss) k ≡ calls_of ss k)
    → ((p : Board) (told : Told) → s ≡ look p (Some told) → IsWithin told (leaders_tricks p) × HoldsFor p told) → ((cell : ℕ) (p : Board) (value : ℕ) → s ≡ get cell p (Some value) → value ≡ leaders_tricks p)
    → Ran v ss w → Ran u (s ∷ ss) w
ran-other u v w s ss book journal other looks gets n = record {
  good = n.good;
  events = n.events;
  journal = n.journal ∙ ap (λ l. l ++ n.events) journal;
  legal = n.legal ∙ ap (λ (b : BookOf). replies b (calls_in n.events)) book;
  book = n.book ∙ ap (λ (b : BookOf). run b (calls_in n.events)) book;
  callers = λ k place. n.callers k place ∙ sym (other k);
  looks = λ p told h. elim (Contains-cons s ss (look p (Some told)) h) [ inl e ↦ looks p told e | inr d ↦ n.looks p told d ];
  gets = λ cell p value h. elim (Contains-cons s ss (get cell p (Some value)) h) [ inl e ↦ gets cell p value e | inr d ↦ n.gets cell p value d ];
  ended = λ number job h e. n.ended number job (subst (λ (b : BookOf). job_at b.jobs number ≡ Some job) (sym book) h) e;
}

call-keeps : (at : Places) (u v : World) (k : ℕ) (c : Call) (reply : Reply) → IsAllowed at (call k c reply) → Does at u (call k c reply) v → KeepsEnded u v
call-keeps at u v k c reply a d number job h closed =
    let f = number-forth u.book.jobs v.book.jobs c reply (call-changes at u v k c reply a.1 d) number job h in
    subst (λ (x : JobOf). job_at v.book.jobs number ≡ Some x) (f.2.ended closed) f.1

pub ran : AlikeLaw → (at : Places) (ss : List Step) (u w : World) → IsGood u → Leads at u ss w → Ran u ss w
unfolding Leads calls_of
ran alike at [] u w g l = subst (Ran u []) (sym l) (ran-none u g)
ran alike at (call k c reply ∷ ss) u w g l =
    let d = l.2 in
    let n = ran alike at ss l.0 w (stepped alike at u l.0 (call k c reply) g l.1 d) l.3 in
    ran-call u l.0 w k c reply ss d.0 d.1 d.2 (call-keeps at u l.0 k c reply l.1 d) n
ran alike at (look p answer ∷ ss) u w g l =
    let d = l.2 in
    let n = ran alike at ss l.0 w (stepped alike at u l.0 (look p answer) g l.1 d) l.3 in
    ran-other u l.0 w (look p answer) ss d.0.0 d.0.1 (λ k. refl)
    (λ q told e. looked at u l.0 q told g (subst (IsAllowed at) e l.1) (subst (λ (x : Step). Does at u x l.0) e d))
    (λ cell q value e. absurd (cc)) n
ran alike at (note p told ∷ ss) u w g l =
    let d = l.2 in
    let n = ran alike at ss l.0 w (stepped alike at u l.0 (note p told) g l.1 d) l.3 in
    ran-other u l.0 w (note p told) ss d.0.0 d.0.1 (λ k. refl) (λ q t e. absurd (cc)) (λ cell q value e. absurd (cc)) n
ran alike at (get cell p answer ∷ ss) u w g l =
    let d = l.2 in
    let n = ran alike at ss l.0 w (stepped alike at u l.0 (get cell p answer) g l.1 d) l.3 in
    ran-other u l.0 w (get cell p answer) ss (ap (λ (x : World). x.book) d.0) (ap (λ (x : World). x.journal) d.0) (λ k. refl) (λ q t e. absurd (cc))
    (λ other q value e. got at u l.0 other q value g (subst (IsAllowed at) e l.1) (subst (λ (x : Step). Does at u x l.0) e d)) n
ran alike at (set cell p value ∷ ss) u w g l =
    let d = l.2 in
    let n = ran alike at ss l.0 w (stepped alike at u l.0 (set cell p value) g l.1 d) l.3 in
    ran-other u l.0 w (set cell p value) ss d.0.0 d.0.1 (λ k. refl) (λ q t e. absurd (cc)) (λ other q x e. absurd (cc)) n

-- runs one after the other
onward : (at : Places) (first rest : List Step) (start u w : World) → Leads at start first u → Leads at u rest w → Leads at start (first ++ rest) w
unfolding Leads
onward at [] rest start u w a b = subst (λ (v : World). Leads at v rest w) a b
onward at (s ∷ ss) rest start u w a b = (a.0, a.1, a.2, onward at ss rest a.0 u w a.3 b)

-- ---- answers that were fetched

open-other : (b : Bool) (state : JobState) → (IsAnswer : JobState → Type 0) → (IsAnswer shown.Waiting → ⊥) → (IsAnswer shown.Running → ⊥) → IsAnswer (cond b shown.Waiting shown.Running) → ⊥
open-other true state IsAnswer waits runs h = waits h
open-other false state IsAnswer waits runs h = runs h

-- a job that shows an answer ended with it
shown-answer : (asked : Asked) (stage : Stage) (solved : SolvedQuestion) → shown.Done solved ≡ shown_stage stage → EndsRight asked stage → (asked ≡ Solve solved.asked) × (solved ≡ solved_question solved.asked)
shown-answer asked (Open parts) solved e right = absurd (open-other (list_all is_waiting parts) shown.Waiting (λ (s : JobState). shown.Done solved ≡ s) (λ h. cc) (λ h. cc) e)
shown-answer asked (Done done) solved e right = let same : done ≡ solved = cc in subst (λ (s : SolvedQuestion). (asked ≡ Solve s.asked) × (s ≡ solved_question s.asked)) same right
shown-answer asked (TableDone table) solved e right = absurd (cc)
shown-answer asked (TargetDone done) solved e right = absurd (cc)
shown-answer asked (PlayDone done) solved e right = absurd (cc)
shown-answer asked Cancelled solved e right = absurd (cc)
shown-answer asked Spent solved e right = absurd (cc)

-- .. and one that shows a table with that
shown-table : (asked : Asked) (stage : Stage) (table : HandsResults) → shown.TableDone table ≡ shown_stage stage → EndsRight asked stage → (asked ≡ Table table.hands) × (table ≡ hands_results table.hands)
shown-table asked (Open parts) table e right = absurd (open-other (list_all is_waiting parts) shown.Waiting (λ (s : JobState). shown.TableDone table ≡ s) (λ h. cc) (λ h. cc) e)
shown-table asked (Done done) table e right = absurd (cc)
shown-table asked (TableDone done) table e right = let same : done ≡ table = cc in subst (λ (t : HandsResults). (asked ≡ Table t.hands) × (t ≡ hands_results t.hands)) same right
shown-table asked (TargetDone done) table e right = absurd (cc)
shown-table asked (PlayDone done) table e right = absurd (cc)
shown-table asked Cancelled table e right = absurd (cc)
shown-table asked Spent table e right = absurd (cc)

-- .. and one that shows the cards that reach a target with those
shown-target : (asked : Asked) (stage : Stage) (solved : SolvedTargetQuestion) → shown.TargetDone solved ≡ shown_stage stage → EndsRight asked stage → (asked ≡ Target solved.asked) × (solved ≡ solved_target solved.asked)
shown-target asked (Open parts) solved e right = absurd (open-other (list_all is_waiting parts) shown.Waiting (λ (s : JobState). shown.TargetDone solved ≡ s) (λ h. cc) (λ h. cc) e)
shown-target asked (Done done) solved e right = absurd (cc)
shown-target asked (TableDone table) solved e right = absurd (cc)
shown-target asked (TargetDone done) solved e right = let same : done ≡ solved = cc in subst (λ (s : SolvedTargetQuestion). (asked ≡ Target s.asked) × (s ≡ solved_target s.asked)) same right
shown-target asked (PlayDone done) solved e right = absurd (cc)
shown-target asked Cancelled solved e right = absurd (cc)
shown-target asked Spent solved e right = absurd (cc)

-- .. and one that shows a trace with that of the play that was asked
shown-play : (asked : Asked) (stage : Stage) (tricks : List ℕ) → shown.PlayDone tricks ≡ shown_stage stage → EndsRight asked stage → (play : plays.Play) × (asked ≡ Play play) × (tricks ≡ trace play)
shown-play asked (Open parts) tricks e right = absurd (open-other (list_all is_waiting parts) shown.Waiting (λ (s : JobState). shown.PlayDone tricks ≡ s) (λ h. cc) (λ h. cc) e)
shown-play asked (Done done) tricks e right = absurd (cc)
shown-play asked (TableDone table) tricks e right = absurd (cc)
shown-play asked (TargetDone done) tricks e right = absurd (cc)
shown-play asked (PlayDone done) tricks e right = let same : done ≡ tricks = cc in (right.0, right.1, sym same ∙ right.2)
shown-play asked Cancelled tricks e right = absurd (cc)
shown-play asked Spent tricks e right = absurd (cc)

-- the submit of a job, by its number
submit-of : (w : World) (number : ℕ) (job : JobOf) → IsGood w → job_at w.book.jobs number ≡ Some job → Contains w.journal (event job.owner (Submit job.owner job.asked) (Submitted number)) × EndsRight job.asked job.stage
submit-of w number job g h =
    let p = place-of w.book.jobs number job h in
    (subst (λ (n : ℕ). Contains w.journal (event job.owner (Submit job.owner job.asked) (Submitted n))) (sym p.1) (g.of_job p.0 job p.2), g.right p.0 job p.2)

answer-of : (w : World) (k number : ℕ) (c : Call) (solved : SolvedQuestion) → IsGood w → Contains w.journal (event k c (State number (shown.Done solved)))
    → Contains w.journal (event k (Submit k (Solve solved.asked)) (Submitted number)) × (solved ≡ solved_question solved.asked)
answer-of w k number c solved g h =
    let f = g.of_fetch k number c (shown.Done solved) h tt in
    let from = submit-of w number f.0 g f.1 in
    let right = shown-answer f.0.asked f.0.stage solved f.3 from.1 in
    (subst (Contains w.journal) (λ i. event (f.2 i) (Submit (f.2 i) (right.0 i)) (Submitted number)) from.0, right.1)

table-of : (w : World) (k number : ℕ) (c : Call) (table : HandsResults) → IsGood w → Contains w.journal (event k c (State number (shown.TableDone table)))
    → Contains w.journal (event k (Submit k (Table table.hands)) (Submitted number)) × (table ≡ hands_results table.hands)
table-of w k number c table g h =
    let f = g.of_fetch k number c (shown.TableDone table) h tt in
    let from = submit-of w number f.0 g f.1 in
    let right = shown-table f.0.asked f.0.stage table f.3 from.1 in
    (subst (Contains w.journal) (λ i. event (f.2 i) (Submit (f.2 i) (right.0 i)) (Submitted number)) from.0, right.1)

target-of : (w : World) (k number : ℕ) (c : Call) (solved : SolvedTargetQuestion) → IsGood w → Contains w.journal (event k c (State number (shown.TargetDone solved)))
    → Contains w.journal (event k (Submit k (Target solved.asked)) (Submitted number)) × (solved ≡ solved_target solved.asked)
target-of w k number c solved g h =
    let f = g.of_fetch k number c (shown.TargetDone solved) h tt in
    let from = submit-of w number f.0 g f.1 in
    let right = shown-target f.0.asked f.0.stage solved f.3 from.1 in
    (subst (Contains w.journal) (λ i. event (f.2 i) (Submit (f.2 i) (right.0 i)) (Submitted number)) from.0, right.1)

play-of : (w : World) (k number : ℕ) (c : Call) (tricks : List ℕ) → IsGood w → Contains w.journal (event k c (State number (shown.PlayDone tricks)))
    → (play : plays.Play) × Contains w.journal (event k (Submit k (Play play)) (Submitted number)) × (tricks ≡ trace play)
play-of w k number c tricks g h =
    let f = g.of_fetch k number c (shown.PlayDone tricks) h tt in
    let from = submit-of w number f.0 g f.1 in
    let right = shown-play f.0.asked f.0.stage tricks f.3 from.1 in
    (right.0, subst (Contains w.journal) (λ i. event (f.2 i) (Submit (f.2 i) (right.1 i)) (Submitted number)) from.0, right.2)

-- a number was given to one submit
one-number : (w : World) (k l number : ℕ) (a b : Asked) → IsGood w → Contains w.journal (event k (Submit k a) (Submitted number)) → Contains w.journal (event l (Submit l b) (Submitted number)) → (k ≡ l) × (a ≡ b)
one-number w k l number a b g first second =
    let x = g.of_submit k number a first in
    let y = g.of_submit l number b second in
    let same : x.0 ≡ y.0 = same_Some x.0 y.0 (sym x.1 ∙ y.1) in
    (sym x.2 ∙ ap (λ (z : JobOf). z.owner) same ∙ y.2, sym x.3 ∙ ap (λ (z : JobOf). z.asked) same ∙ y.3)

-- what a legal journal tells of a job is of what was submitted under its number
own-answers : (limits : LimitsOf) (es : List EventOf) → IsLegal limits es → AnswersAreOwn es
own-answers limits es legal = subst (λ (rs : List Reply). AllTellOwn (submitted (calls_in es) rs) (calls_in es) rs) (sym legal) (tell-own limits (calls_in es))

-- ---- the laws

headline : AlikeLaw → (limits : LimitsOf) (at : Places) (ss : List Step) (start w : World) → IsEmpty limits start → Leads at start ss w → Headline limits ss w
headline alike limits at ss start w e l =
    let r = ran alike at ss start w (empty-good limits start e) l in
    let journal : w.journal ≡ r.events = r.journal ∙ ap (λ (q : List EventOf). q ++ r.events) e.journal in
    let legal : IsLegal limits w.journal = subst (IsLegal limits) (sym journal) (r.legal ∙ ap (λ (b : BookOf). replies b (calls_in r.events)) e.book) in
    record {
      legal = legal;
      book = r.book ∙ ap (λ (b : BookOf). run b (calls_in r.events)) e.book ∙ ap (λ (es : List EventOf). run (empty_book limits) (calls_in es)) (sym journal);
      callers = λ k. ap (λ (es : List EventOf). map (told_by k) (receipts_from 0 es k)) journal ∙ r.callers k 0;
      looks = λ p told c. (r.looks p told c).0;
      covered = λ p told c. (r.looks p told c).1;
      gets = r.gets;
      answers = λ k job c solved h. answer-of w k job c solved r.good h;
      tables = λ k job c table h. table-of w k job c table r.good h;
      targets = λ k job c solved h. target-of w k job c solved r.good h;
      plays = λ k job c tricks h. play-of w k job c tricks r.good h;
      numbers = λ k l job a b first second. one-number w k l job a b r.good first second;
      told = own-answers limits w.journal legal;
    }

pub law : AlikeLaw → WorldLaw
law alike limits at start u w first rest e a b =
    let mid = ran alike at first start u (empty-good limits start e) a in
    let last = ran alike at rest u w mid.good b in
    (headline alike limits at (first ++ rest) start w e (onward at first rest start u w a b), last.ended)
