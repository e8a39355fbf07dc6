-- To be believed: what a run of the program does, and what it leaves of its streams.
use Rattle.std.specs.Prelude.{◌≡◌, ◌<◌, ◌⊎◌, ℕ, List, [], ◌∷◌, All, Bool, true, false, length, Option, Result, Ok, Err, codes, string_bytes, decimal, ◌++◌}
use Rattle.clap.specs.declared.error.kind.ErrorKind.{ErrorKind}
use Rattle.dd_tool.specs.Served.{IsReplyAs}
use Rattle.dd_command.specs.declared.command_line.Args.{Args}
use Rattle.dd_command.specs.declared.command_line.Args.TheVariants.{Fill, Serve, Solve}
use Rattle.dd_streams.specs.declared.ending.Ending.{Ending}
use Rattle.dd_streams.specs.declared.ending.Ending.TheVariants.{Closed, WriteFailed, CannotListen, ListenFailed, OutOfMemory}
use Rattle.dd_streams.specs.declared.listen_fault.ListenFault.{ListenFault}
use Rattle.dd_streams.specs.ListenFaults.{line_of_fault}
use Rattle.dd_streams.specs.Endings.{line_of, AskFor, AskForNothing, Device, FillsUntil, HaveError, RunsOut, ShowsUntil, SolvesUntil, Streams, Words, Writes, WritesAll, WritesBeginning}
use Rattle.dd_desk.specs.Events.{EventOf}
use Rattle.dd_server.specs.Histories.{IsJournalOfRun}
use Rattle.dd_server.specs.Runs.{AreTold}
use Rattle.dd_server.specs.declared.args.ServeFault.{ServeFault}
use Rattle.dd_server.specs.declared.terms.Terms.{Terms}
use Rattle.dd_server.specs.declared.args.ServeFault.TheVariants.{Listen, OutOfMemory as NoMemoryLeft}
use Rattle.dd_book.specs.Limits.{LimitsOf, limits_of}
use Rattle.dd_limits.specs.declared.limits.TheConstants.{MOST_OPEN_JOBS, MOST_JOBS, MOST_PASSES}

-- ---- clients are served

-- what is told of the address that is listened at, and at the end of the number of events
abbrev pub listening_text : List ℕ → List ℕ
listening_text address = codes "listening on " ++ address ++ codes "\n"

abbrev pub closed_text : ℕ → List ℕ
closed_text events = codes "closed after " ++ decimal events ++ codes " events\n"

-- the same of runs, each by its journal, one line after another
abbrev pub closed_texts : List (List EventOf) → List ℕ
closed_texts [] = []
closed_texts (run ∷ runs) = closed_text (length run) ++ closed_texts runs

-- the most that the book of a run and its callers may hold, with so many events
abbrev pub limits_for : ℕ → LimitsOf
limits_for events = limits_of MOST_OPEN_JOBS MOST_JOBS MOST_PASSES events

-- the text was told whole, or up to where a write failed
abbrev pub TellsText : List ℕ → Bool → Device → Device → Type 0
TellsText text false old new = WritesAll text old new
TellsText text true old new = WritesBeginning text old new

-- What is known of who tells of runs: the names of the references to its output and to who watches, the output, whether a write
-- failed, and the state of who watches.
pub record TellingOf (S : Type 0) : Type 0 where
  pub references : ℕ × ℕ
  pub output : Device
  pub has_failed : Bool
  pub watcher : S

-- after a write that failed nothing more is told; else the line of the run with this journal is
abbrev pub TellsNext : {S : Type 0} → Bool → List EventOf → TellingOf S → TellingOf S → Type 0
TellsNext true run before after = (after.output ≡ before.output) × (after.has_failed ≡ before.has_failed)
TellsNext false run before after = TellsText (closed_text (length run)) after.has_failed before.output after.output

-- a run with this journal is told, to who watches in its own way
abbrev pub TellsRun : {S : Type 0} → (S → List EventOf → S → Type 0) → TellingOf S → List EventOf → TellingOf S → Type 0
TellsRun way before run after =
    (after.references ≡ before.references) × way before.watcher run after.watcher × TellsNext before.has_failed run before after

-- what each run of the server is asked for by these options: how its sessions answer, and the budget of a search
abbrev pub terms_for : Option ℕ → Bool → Bool → Terms
terms_for budget allow_stop explain = record { manner = record { allow_stop = allow_stop; explain = explain }; budget = budget }

-- runs that were asked for so, with so many events at most, each by the journal that it left
abbrev pub AreRuns : Terms → ℕ → List (List EventOf) → Type 0
AreRuns terms events runs = All (IsJournalOfRun (limits_for events) terms) runs

-- The address was told, and of each run, at its end, how many events its journal has: of one at least. Who watches was told of just
-- these runs, each by that journal.
pub record Serves {S : Type 0} (way : S → List EventOf → S → Type 0) (watcher watcher2 : S) (terms : Terms) (events : ℕ) (old new : Streams) : Type 0 where
  pub input : new.input ≡ old.input
  pub address : List ℕ
  pub between : Device
  pub listens : WritesAll (listening_text address) old.output between
  pub runs : List (List EventOf)
  pub are_runs : AreRuns terms events runs
  pub some : 0 < length runs
  pub closes : WritesAll (closed_texts runs) between new.output
  pub watched : AreTold way watcher runs watcher2
  pub errors : new.errors ≡ old.errors

-- nothing was told but a beginning of the address
abbrev pub TellsNoRun : {S : Type 0} → S → S → Streams → Streams → Type 0
TellsNoRun watcher watcher2 old new = (watcher2 ≡ watcher) × ((address : List ℕ) × WritesBeginning (listening_text address) old.output new.output)

-- the address was told, and who watches was told of some runs, whose lines were told so
abbrev pub TellsOfRuns : {S : Type 0} → (S → List EventOf → S → Type 0) → S → S → (List ℕ → Device → Device → Type 0) → Terms → ℕ → Streams → Streams → Type 0
TellsOfRuns way watcher watcher2 Closes terms events old new =
    (address : List ℕ) × (between : Device) × WritesAll (listening_text address) old.output between
    × (runs : List (List EventOf)) × AreRuns terms events runs × AreTold way watcher runs watcher2 × Closes (closed_texts runs) between new.output

-- one of these could not be told whole, and none after it was told
pub record FailsToTell {S : Type 0} (way : S → List EventOf → S → Type 0) (watcher watcher2 : S) (terms : Terms) (events : ℕ) (old new : Streams) : Type 0 where
  pub input : new.input ≡ old.input
  pub output : TellsNoRun watcher watcher2 old new ⊎ TellsOfRuns way watcher watcher2 WritesBeginning terms events old new
  pub said : Writes (line_of WriteFailed) old.errors new.errors

-- it ended badly, perhaps after the address and runs were told, these as far as the device took them, and that was said
pub record FailsToServe {S : Type 0} (way : S → List EventOf → S → Type 0) (watcher watcher2 : S) (terms : Terms) (events : ℕ) (ending : Ending) (old new : Streams) : Type 0 where
  pub input : new.input ≡ old.input
  pub output : ((watcher2 ≡ watcher) × (new.output ≡ old.output)) ⊎ TellsOfRuns way watcher watcher2 Writes terms events old new
  pub said : Writes (line_of ending) old.errors new.errors

-- the address can't be listened at: nothing was told, and that was said
pub record FailsToListen {S : Type 0} (watcher watcher2 : S) (fault : ListenFault) (old new : Streams) : Type 0 where
  pub input : new.input ≡ old.input
  pub output : new.output ≡ old.output
  pub watched : watcher2 ≡ watcher
  pub said : Writes (line_of_fault fault) old.errors new.errors

-- clients are served by runs that are asked for so, of so many events, up to this ending; who watches the runs is told of them
abbrev pub ServesUntil : {S : Type 0} → (S → List EventOf → S → Type 0) → S → S → Terms → ℕ → Streams → Streams → Ending → Type 0
ServesUntil way watcher watcher2 terms events old new Closed = Serves way watcher watcher2 terms events old new
ServesUntil way watcher watcher2 terms events old new WriteFailed = FailsToTell way watcher watcher2 terms events old new
ServesUntil way watcher watcher2 terms events old new (CannotListen fault) = FailsToListen watcher watcher2 fault old new
ServesUntil way watcher watcher2 terms events old new ListenFailed = FailsToServe way watcher watcher2 terms events ListenFailed old new
ServesUntil way watcher watcher2 terms events old new OutOfMemory = FailsToServe way watcher watcher2 terms events OutOfMemory old new
ServesUntil way watcher watcher2 terms events old new _ = ⊥

-- how it ends where the server ended so, and where telling of its runs failed or not; a failure is said
abbrev pub EndsSo : Result (Unit {0}) ServeFault → Bool → Device → Device → Ending → Type 0
EndsSo (Ok done) false errors errors2 ending = (ending ≡ Closed) × (errors2 ≡ errors)
EndsSo (Ok done) true errors errors2 ending = (ending ≡ WriteFailed) × Writes (line_of WriteFailed) errors errors2
EndsSo (Err Listen) failed errors errors2 ending = (ending ≡ ListenFailed) × Writes (line_of ListenFailed) errors errors2
EndsSo (Err NoMemoryLeft) failed errors errors2 ending = (ending ≡ OutOfMemory) × Writes (line_of OutOfMemory) errors errors2

-- ---- the run

-- What the arguments ask for is done, up to this ending; progress is shown where the standard error is a terminal. Who watches is
-- told of the runs of a server, and else of nothing.
abbrev pub AnswersUntil : {S : Type 0} → (S → List EventOf → S → Type 0) → S → S → Bool → Args → Streams → Streams → Ending → Type 0
AnswersUntil way watcher watcher2 is_terminal (Solve budget entries workers explain) old new ending =
    (watcher2 ≡ watcher) × SolvesUntil (IsReplyAs explain budget) old new ending
AnswersUntil way watcher watcher2 is_terminal (Serve listen workers shards entries budget events idle websocket allow_stop explain) old new ending =
    ServesUntil way watcher watcher2 (terms_for budget allow_stop explain) events old new ending
AnswersUntil way watcher watcher2 is_terminal (Fill tags budget entries workers) old new ending =
    (watcher2 ≡ watcher) × FillsUntil (string_bytes tags) budget is_terminal old new ending

-- What a run does up to its ending: it answers lines, serves clients or fills a file where the arguments ask for that, and else shows their error; or memory ran
-- out before either. Who watches the runs of a server is told of these, and else of nothing.
abbrev pub Runs : {S : Type 0} → (S → List EventOf → S → Type 0) → S → S → Words → Bool → Streams → Streams → Ending → Type 0
Runs way watcher watcher2 arguments is_terminal old new ending =
    ((args : Args) × AskFor arguments args × AnswersUntil way watcher watcher2 is_terminal args old new ending)
    ⊎ ((watcher2 ≡ watcher) × ((error : ErrorKind) × AskForNothing arguments × HaveError arguments error × ShowsUntil error old new ending))
    ⊎ ((watcher2 ≡ watcher) × (ending ≡ OutOfMemory) × RunsOut old new)
