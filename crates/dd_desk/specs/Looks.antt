-- To be believed: what a look at the desk sees, which makes no event, and what a cancel tells that may need none.
use Rattle.std.specs.Prelude.{◌≡◌, ◌⊎◌, ℕ, ◌+◌, length, take, Bool, true, false, not, Option, None, Some, Result, Ok, Err, List, nat_le}
use Rattle.dd_book.specs.declared.call.Call.TheVariants.{Cancel}
use Rattle.dd_book.specs.declared.call.Refusal.TheVariants.{UnknownJob}
use Rattle.dd_book.specs.declared.call.Reply.{Reply}
use Rattle.dd_book.specs.declared.call.Reply.TheVariants.{Cancelled, Fault}
use Rattle.dd_book.specs.Limits.{LimitsOf}
use Rattle.dd_book.specs.Jobs.{JobOf, is_open, open_in, open_of, own_job}
use Rattle.dd_book.specs.Running.{runs_at}
use Rattle.dd_desk.specs.declared.fault.DeskFault.{DeskFault}
use Rattle.dd_desk.specs.declared.tally.Tally.{Tally}
use Rattle.dd_desk.specs.Events.{EventOf, IsLegal, replay}
use Rattle.dd_desk.specs.Faults.{IsOfCall}
use Rattle.dd_desk.specs.Receipts.{HasReceipts, PassOf}
use Rattle.dd_desk.specs.Replies.{IsAnswered}
use Rattle.dd_desk.specs.Reserve.{IsRefused}
use Rattle.dd_desk.specs.Sightings.{WasSeen}

-- what a pass has seen of its desk: its number, and a journal
pub record SeenOf : Type 0 where
  pub number : ℕ
  pub journal : List EventOf

abbrev pub seen_of : ℕ → List EventOf → SeenOf
seen_of number journal = record { number = number; journal = journal }

-- the journal goes on from the one that was seen
abbrev pub GoesOn : List EventOf → List EventOf → Type 0
GoesOn seen journal = take (length seen) journal ≡ seen

-- A worker has a part under this claim or has none, as this tells, after a journal that was seen at a desk of these limits, and that
-- goes on from the one that the worker has seen. One thread could have made it.
pub record SeesRunning (limits : LimitsOf) (seen : SeenOf) (job claim : ℕ) (runs : Bool) : Type 0 where
  pub journal : List EventOf
  pub legal : IsLegal limits journal
  pub was : WasSeen limits journal
  pub goes_on : GoesOn seen.journal journal
  pub sees : runs ≡ runs_at (replay limits journal).jobs seen.number job claim

-- The caller has an open job or has none, as this tells, after a journal that was seen at a desk of these limits. One thread could
-- have made it.
pub record SeesOpen (limits : LimitsOf) (caller : ℕ) (has : Bool) : Type 0 where
  pub journal : List EventOf
  pub legal : IsLegal limits journal
  pub was : WasSeen limits journal
  pub sees : has ≡ nat_le 1 (open_of caller (replay limits journal).jobs)

-- Of a journal that was seen at a desk of these limits so many events have still room, and after it so many jobs are open, whoever
-- owns them. One thread could have made it.
pub record SeesTally (limits : LimitsOf) (tally : Tally) : Type 0 where
  pub journal : List EventOf
  pub legal : IsLegal limits journal
  pub was : WasSeen limits journal
  pub left : tally.events_left + length journal ≡ limits.events
  pub jobs : tally.open_jobs ≡ open_in (replay limits journal).jobs

-- is the job there, and no longer open?
abbrev pub is_ended_job : Option JobOf → Bool
is_ended_job None = false
is_ended_job (Some job) = not (is_open job)

-- The pass's job of this number has ended, after a journal that was seen at a desk of these limits, and in which all receipts of the
-- pass stand. One thread could have made it.
pub record SeesEnd (limits : LimitsOf) (pass : PassOf) (job : ℕ) : Type 0 where
  pub journal : List EventOf
  pub legal : IsLegal limits journal
  pub was : WasSeen limits journal
  pub has : HasReceipts journal pass
  pub sees : is_ended_job (own_job (replay limits journal).jobs pass.number job) ≡ true

-- what a cancel is told that finds no job which has ended: it is cancelled, or is none of the caller's
abbrev pub FindsNoEnd : ℕ → Reply → Type 0
FindsNoEnd job reply = (reply ≡ Cancelled job) ⊎ (reply ≡ Fault UnknownJob)

-- The pass before and after a job of its is cancelled if need be: the job has ended, and the pass is as it was; or the cancel
-- is answered, by one receipt; or it is refused, and the pass is as it was.
abbrev pub IsToldIfOpen : LimitsOf → PassOf → ℕ → Result (Option Reply) DeskFault → PassOf → Type 0
IsToldIfOpen limits before job (Ok None) after = SeesEnd limits before job × (after ≡ before)
IsToldIfOpen limits before job (Ok (Some reply)) after =
    IsAnswered limits before (Cancel before.number job) reply after × FindsNoEnd job reply
IsToldIfOpen limits before job (Err fault) after =
    IsOfCall fault × (after ≡ before) × IsRefused limits before (Cancel before.number job) fault
