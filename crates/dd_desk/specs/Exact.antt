-- What a reply carries by the types of its answers.
use Rattle.std.specs.Prelude.{◌≡◌, List, map}
use Rattle.dd_request.specs.Questions.{solved_question}
use Rattle.dd_request.specs.Results.{hands_results}
use Rattle.dd_request.specs.Targets.{solved_target}
use Rattle.dd_book.specs.declared.call.JobState.{JobState}
use Rattle.dd_book.specs.declared.call.JobState.TheVariants as shown
use Rattle.dd_book.specs.declared.call.Reply.{Reply}
use Rattle.dd_book.specs.declared.call.Reply.TheVariants.{Submitted, Claimed, ClaimedTarget, ClaimedPart, ClaimedPlayPart, NothingWaits, Closing, Recorded, Stale, Cancelled, State, Shut, Fault}
use Rattle.dd_desk.specs.Events.{EventOf, replies_in}

-- the state with the answer, or the table, of exhaustive play to the request that stands beside it
abbrev pub answered_anew : JobState → JobState
answered_anew shown.Waiting = shown.Waiting
answered_anew shown.Running = shown.Running
answered_anew (shown.Done solved) = shown.Done (solved_question solved.asked)
answered_anew (shown.TableDone table) = shown.TableDone (hands_results table.hands)
answered_anew (shown.TargetDone solved) = shown.TargetDone (solved_target solved.asked)
answered_anew (shown.PlayDone tricks) = shown.PlayDone tricks
answered_anew shown.Cancelled = shown.Cancelled
answered_anew shown.Spent = shown.Spent

abbrev pub told_anew : Reply → Reply
told_anew (Submitted number) = Submitted number
told_anew (Claimed number claim question) = Claimed number claim question
told_anew (ClaimedTarget number claim question) = ClaimedTarget number claim question
told_anew (ClaimedPart number part claim hands) = ClaimedPart number part claim hands
told_anew (ClaimedPlayPart number part claim position side) = ClaimedPlayPart number part claim position side
told_anew NothingWaits = NothingWaits
told_anew Closing = Closing
told_anew Recorded = Recorded
told_anew Stale = Stale
told_anew (Cancelled number) = Cancelled number
told_anew (State number state) = State number (answered_anew state)
told_anew Shut = Shut
told_anew (Fault refusal) = Fault refusal

-- each reply of a journal has these answers already
abbrev pub AllAreExact : List EventOf → Type 0
AllAreExact journal = map told_anew (replies_in journal) ≡ replies_in journal
