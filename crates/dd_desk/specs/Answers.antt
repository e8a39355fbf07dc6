-- To be believed: what makes right what callers are told of their jobs.
use Rattle.std.specs.Prelude.{◌≡◌, ℕ, List, Some, All}
use Rattle.dd_request.specs.declared.asked.Asked.{Asked}
use Rattle.dd_request.specs.declared.asked.Asked.TheVariants.{Solve, Table, Target, Play}
use Rattle.dd_request.specs.Questions.{solved_question}
use Rattle.dd_request.specs.Results.{hands_results}
use Rattle.dd_request.specs.Targets.{solved_target}
use Rattle.dd_request.specs.Plays as plays
use Rattle.dd_request.specs.Plays.{trace}
use Rattle.dd_book.specs.Asks.{asked_at, submitted}
use Rattle.dd_book.specs.declared.call.JobState.{JobState}
use Rattle.dd_book.specs.declared.call.JobState.TheVariants as shown
use Rattle.dd_book.specs.declared.call.Reply.{Reply}
use Rattle.dd_book.specs.declared.call.Reply.TheVariants.{Submitted, Claimed, ClaimedTarget, ClaimedPart, ClaimedPlayPart, NothingWaits, Closing, Recorded, Stale, Cancelled, State, Shut, Fault}
use Rattle.dd_desk.specs.Events.{EventOf, calls_in, replies_in}

-- What a fetch shows of a job is that of exhaustive play for what was submitted under the job's number: an answer has the cards,
-- equals and scores of that position, or the cards that reach the target there; a table the twenty results of those hands; a trace
-- the tricks before the first card of that play and after each one.
abbrev pub ShowsRight : List Asked → ℕ → JobState → Type 0
ShowsRight asks number shown.Waiting = Unit {0}
ShowsRight asks number shown.Running = Unit {0}
ShowsRight asks number (shown.Done solved) =
    (asked_at asks number ≡ Some (Solve solved.asked)) × (solved ≡ solved_question solved.asked)
ShowsRight asks number (shown.TableDone table) =
    (asked_at asks number ≡ Some (Table table.hands)) × (table ≡ hands_results table.hands)
ShowsRight asks number (shown.TargetDone solved) =
    (asked_at asks number ≡ Some (Target solved.asked)) × (solved ≡ solved_target solved.asked)
ShowsRight asks number (shown.PlayDone tricks) =
    (play : plays.Play) × (asked_at asks number ≡ Some (Play play)) × (tricks ≡ trace play)
ShowsRight asks number shown.Cancelled = Unit {0}
ShowsRight asks number shown.Spent = Unit {0}

-- so is what a reply shows
abbrev pub TellsRight : List Asked → Reply → Type 0
TellsRight asks (Submitted number) = Unit {0}
TellsRight asks (Claimed number claim question) = Unit {0}
TellsRight asks (ClaimedTarget number claim question) = Unit {0}
TellsRight asks (ClaimedPart number part claim hands) = Unit {0}
TellsRight asks (ClaimedPlayPart number part claim position side) = Unit {0}
TellsRight asks NothingWaits = Unit {0}
TellsRight asks Closing = Unit {0}
TellsRight asks Recorded = Unit {0}
TellsRight asks Stale = Unit {0}
TellsRight asks (Cancelled number) = Unit {0}
TellsRight asks (State number state) = ShowsRight asks number state
TellsRight asks Shut = Unit {0}
TellsRight asks (Fault refusal) = Unit {0}

-- every answer, table and trace that the replies of a journal tell is right
abbrev pub AnswersAreRight : List EventOf → Type 0
AnswersAreRight journal =
    All (TellsRight (submitted (calls_in journal) (replies_in journal))) (replies_in journal)
