-- To be believed: runs that follow one another in one process: each has a book and a journal of its own, and all share one table.
use Rattle.std.specs.Prelude.{◌≡◌, ℕ, false, List, [], ◌∷◌, ◌++◌, nat_eq, Option, if◌then◌else◌}
use Rattle.dd_book.specs.declared.call.Call.{Call}
use Rattle.dd_book.specs.declared.call.Reply.{Reply}
use Rattle.dd_book.specs.Limits.{LimitsOf}
use Rattle.dd_book.specs.Calls.{BookOf}
use Rattle.dd_desk.specs.Events.{EventOf}
use Rattle.dd_shard.specs.Entries.{Entries}
use Rattle.dd_table.specs.Front.{Exact}
use Rattle.dd_runs.specs.Worlds.{Places, World}
use Rattle.dd_runs.specs.Steps.{Does, IsAllowed, Step, call, look, note, get, set}
use Rattle.dd_runs.specs.Runs.{Headline, IsEmpty, KeepsEnded}

-- a book and a journal for each run, by its number, the list of each shard, and the cells of the front
pub record Worlds : Type 0 where
  pub books : ℕ → BookOf
  pub journals : ℕ → List EventOf
  pub shards : List Entries
  pub front : List (Option Exact)

-- the world as this run sees it
abbrev pub world_of : Worlds → ℕ → World
world_of ws run =
    record { book = ws.books run; journal = ws.journals run; shards = ws.shards; front = ws.front }

-- a step of a run: a call at its book with its caller and reply, or a step at the table that all share
pub data RunStep : Type 0 where
  at_book : ℕ → ℕ → Call → Reply → RunStep
  at_table : Step → RunStep

-- a look, a note, a get or a set
abbrev pub IsOfTable : Step → Type 0
IsOfTable (call k c reply) = ⊥
IsOfTable (look p answer) = Unit {0}
IsOfTable (note p told) = Unit {0}
IsOfTable (get cell p answer) = Unit {0}
IsOfTable (set cell p value) = Unit {0}

-- the step as one run sees it
abbrev pub step_of : RunStep → Step
step_of (at_book run k c reply) = call k c reply
step_of (at_table s) = s

-- A call is one of its run's book, and leaves those of the others as they were; a step at the table is what it is for each
-- run.
abbrev pub DoesIn : Places → Worlds → RunStep → Worlds → Type 0
DoesIn at us (at_book run k c reply) ws =
    Does at (world_of us run) (call k c reply) (world_of ws run)
    × ((other : ℕ) → nat_eq run other ≡ false → world_of ws other ≡ world_of us other)
DoesIn at us (at_table s) ws = IsOfTable s × ((run : ℕ) → Does at (world_of us run) s (world_of ws run))

-- these steps lead from one to the other, one after the other, and each was allowed
unfoldable pub LeadsIn : Places → Worlds → List RunStep → Worlds → Type 0
LeadsIn at us [] ws = ws ≡ us
LeadsIn at us (s ∷ ss) ws = (vs : Worlds) × IsAllowed at (step_of s) × DoesIn at us s vs × LeadsIn at vs ss ws

-- the steps that this run sees: its own calls, and all that was done at the table
unfoldable pub seen_by : ℕ → List RunStep → List Step
seen_by run [] = []
seen_by run (at_book own k c reply ∷ ss) =
    (if nat_eq own run then call k c reply ∷ seen_by run ss else seen_by run ss)
seen_by run (at_table s ∷ ss) = s ∷ seen_by run ss

-- The law of runs that follow one another, however they overlap: for each run the whole headline holds, of its own book and
-- journal, and of all that any run did at the table; and its jobs once ended stay as they are.
abbrev pub RunsLaw : Type 0
RunsLaw =
    (limits : ℕ → LimitsOf) (at : Places) (start us ws : Worlds) (first rest : List RunStep)
    → ((run : ℕ) → IsEmpty (limits run) (world_of start run)) → LeadsIn at start first us → LeadsIn at us rest ws
    → (run : ℕ) → Headline (limits run) (seen_by run (first ++ rest)) (world_of ws run)
    × KeepsEnded (world_of us run) (world_of ws run)
