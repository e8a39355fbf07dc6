-- To be believed: every run of a shared job book and a shared table, and what holds of it.
use Rattle.std.specs.Prelude.{◌≡◌, ℕ, false, List, [], ◌∷◌, ◌++◌, map, nat_eq, Contains, if◌then◌else◌}
use Rattle.std.specs.declared.option.Option.{Option}
use Rattle.std.specs.declared.option.Option.TheVariants.{None, Some}
use Rattle.dd_play.specs.Board.{Board}
use Rattle.dd_play.specs.Value.{leaders_tricks}
use Rattle.dd_request.specs.declared.asked.Asked.{Asked}
use Rattle.dd_request.specs.declared.asked.Asked.TheVariants.{Solve, Table, Target, Play}
use Rattle.dd_request.specs.Plays.{Play as PlayOf, trace}
use Rattle.dd_request.specs.Questions.{SolvedQuestion, solved_question}
use Rattle.dd_request.specs.Results.{HandsResults, hands_results}
use Rattle.dd_request.specs.Targets.{SolvedTargetQuestion, solved_target}
use Rattle.dd_shard.specs.Entries.{Entries, Told}
use Rattle.dd_book.specs.declared.call.Call.{Call}
use Rattle.dd_book.specs.declared.call.Call.TheVariants.{Submit}
use Rattle.dd_book.specs.declared.call.JobState.TheVariants.{Done, TableDone, TargetDone, PlayDone}
use Rattle.dd_book.specs.declared.call.Reply.TheVariants.{Submitted, State}
use Rattle.dd_book.specs.Limits.{LimitsOf}
use Rattle.dd_book.specs.Jobs.{JobOf, is_open, job_at}
use Rattle.dd_book.specs.Calls.{empty_book}
use Rattle.dd_desk.specs.Events.{AnswersAreOwn, EventOf, IsLegal, event, replay}
use Rattle.dd_desk.specs.Receipts.{receipts_of, told_by}
use Rattle.dd_table.specs.Front.{Exact}
use Rattle.dd_runs.specs.Worlds.{Places, World}
use Rattle.dd_runs.specs.Steps.{Does, HoldsFor, IsAllowed, IsWithin, Step, call, get, look, note, set}

-- these steps lead from one world to the other, one after the other, and each was allowed
unfoldable pub Leads : Places → World → List Step → World → Type 0
Leads at u [] w = w ≡ u
Leads at u (s ∷ ss) w = (v : World) × IsAllowed at s × Does at u s v × Leads at v ss w

-- no jobs and no events, no entry in any shard, and every cell empty
pub record IsEmpty (limits : LimitsOf) (w : World) : Type 0 where
  pub book : w.book ≡ empty_book limits
  pub journal : w.journal ≡ []
  pub shards : (s : Entries) → Contains w.shards s → s.list ≡ []
  pub front : (held : Option Exact) → Contains w.front held → held ≡ None

-- the calls that k made in these steps, with the replies that k got
unfoldable pub calls_of : List Step → ℕ → List EventOf
calls_of [] k = []
calls_of (call j c reply ∷ ss) k =
    (if nat_eq j k then event k c reply ∷ calls_of ss k else calls_of ss k)
calls_of (look p answer ∷ ss) k = calls_of ss k
calls_of (note p told ∷ ss) k = calls_of ss k
calls_of (get cell p answer ∷ ss) k = calls_of ss k
calls_of (set cell p value ∷ ss) k = calls_of ss k

-- What these steps have led to.
-- legal, book: the journal is a history of one thread, with the sequential book's replies.
-- callers: it holds each caller's calls once and in its order, with the replies that the caller got.
-- looks, covered, gets: every answer of the table holds the value of the position asked, and bounds
-- hold the value of each position that this one covers at their depths.
-- answers, tables, targets, plays: every answer fetched has the cards, equals and scores, or the twenty
-- results, or the cards that reach the target, or the tricks before the first card and after each one,
-- of the request that this caller submitted as that job, as exhaustive play by the Laws gives them.
-- numbers: a job's number was given to one submit.
-- told: all else that was told of a job is of what was submitted under its number.
pub record Headline (limits : LimitsOf) (steps : List Step) (w : World) : Type 0 where
  pub legal : IsLegal limits w.journal
  pub book : w.book ≡ replay limits w.journal
  pub callers : (k : ℕ) → map (told_by k) (receipts_of w.journal k) ≡ calls_of steps k
  pub looks : (p : Board) (told : Told) → Contains steps (look p (Some told))
      → IsWithin told (leaders_tricks p)
  pub covered : (p : Board) (told : Told) → Contains steps (look p (Some told)) → HoldsFor p told
  pub gets : (cell : ℕ) (p : Board) (value : ℕ) → Contains steps (get cell p (Some value))
      → value ≡ leaders_tricks p
  pub answers : (k job : ℕ) (c : Call) (solved : SolvedQuestion)
      → Contains w.journal (event k c (State job (Done solved)))
      → Contains w.journal (event k (Submit k (Solve solved.asked)) (Submitted job))
      × (solved ≡ solved_question solved.asked)
  pub tables : (k job : ℕ) (c : Call) (table : HandsResults)
      → Contains w.journal (event k c (State job (TableDone table)))
      → Contains w.journal (event k (Submit k (Table table.hands)) (Submitted job))
      × (table ≡ hands_results table.hands)
  pub targets : (k job : ℕ) (c : Call) (solved : SolvedTargetQuestion)
      → Contains w.journal (event k c (State job (TargetDone solved)))
      → Contains w.journal (event k (Submit k (Target solved.asked)) (Submitted job))
      × (solved ≡ solved_target solved.asked)
  pub plays : (k job : ℕ) (c : Call) (tricks : List ℕ)
      → Contains w.journal (event k c (State job (PlayDone tricks)))
      → (play : PlayOf) × Contains w.journal (event k (Submit k (Play play)) (Submitted job))
      × (tricks ≡ trace play)
  pub numbers : (k l job : ℕ) (a b : Asked)
      → Contains w.journal (event k (Submit k a) (Submitted job))
      → Contains w.journal (event l (Submit l b) (Submitted job)) → (k ≡ l) × (a ≡ b)
  pub told : AnswersAreOwn w.journal

-- a job once ended keeps its state and its answer
abbrev pub KeepsEnded : World → World → Type 0
KeepsEnded u w =
    (number : ℕ) (job : JobOf) → job_at u.book.jobs number ≡ Some job → is_open job ≡ false
    → job_at w.book.jobs number ≡ Some job

-- the law of all runs: from an empty world, whatever steps led to one world and from there on to
-- another
abbrev pub WorldLaw : Type 0
WorldLaw =
    (limits : LimitsOf) (at : Places) (start u w : World) (first rest : List Step)
    → IsEmpty limits start → Leads at start first u → Leads at u rest w
    → Headline limits (first ++ rest) w × KeepsEnded u w
