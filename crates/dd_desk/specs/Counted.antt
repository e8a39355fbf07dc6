-- What is counted beside a journal, so that a call needs no walk along it.
use Rattle.std.specs.Prelude.{◌≡◌, ℕ, ◌+◌, ◌*◌, ◌-◌, ◌<◌, Bool, true, false, List, [], ◌∷◌, ◌++◌, length, max, slice_get, slice_set, Some, if◌then◌else◌}
use Rattle.dd_book.specs.declared.call.Call.{Call}
use Rattle.dd_book.specs.declared.call.Reply.{Reply}
use Rattle.dd_book.specs.declared.call.Reply.TheVariants as reply
use Rattle.dd_book.specs.Calls.{BookOf, after, reply_of}
use Rattle.dd_book.specs.Counts.{counts_in}
use Rattle.dd_desk.specs.declared.counted.Counted.{Counted}
use Rattle.dd_desk.specs.Events.{EventOf, event}
use Rattle.dd_desk.specs.Reserve.{finishes_in, has_ended, is_told, untold}

-- what these counts say is reserved
abbrev pub reserved_by : Counted → ℕ
reserved_by c =
    2 * c.parts.waiting + max c.parts.running (c.claims - c.finishes) + c.untold + (if c.shut then 0 else 1)

-- they are those of this book after this journal
pub record IsCounted (counted : Counted) (book : BookOf) (journal : List EventOf) : Type 0 where
  pub parts : counted.parts ≡ counts_in book.jobs
  pub claims : counted.claims ≡ book.claims
  pub finishes : counted.finishes ≡ finishes_in journal
  pub untold : counted.untold ≡ untold (length book.jobs) journal
  pub shut : counted.shut ≡ book.shut

-- they will be after this call, whoever makes it
abbrev pub IsCountedAfter : Counted → BookOf → List EventOf → Call → Type 0
IsCountedAfter counted book journal call =
    (caller : ℕ) → IsCounted counted (after book call) (journal ++ event caller call (reply_of book call) ∷ [])

-- of each of so many jobs: does some reply tell that it has ended?
pub record AreFlags (flags : List Bool) (jobs : ℕ) (journal : List EventOf) : Type 0 where
  pub length_is : length flags ≡ jobs
  pub at : (place : ℕ) → place < jobs → slice_get flags place ≡ Some (is_told (place + 1) journal)

-- no reply tells it of a job that there isn't
abbrev pub TellsOfJobs : ℕ → List EventOf → Type 0
TellsOfJobs jobs journal = (number : ℕ) → jobs < number → is_told number journal ≡ false

-- the flags after a reply
abbrev pub flags_after : List Bool → Reply → List Bool
flags_after flags (reply.Submitted job) = flags ++ false ∷ []
flags_after flags (reply.Claimed job claim question) = flags
flags_after flags (reply.ClaimedTarget job claim question) = flags
flags_after flags (reply.ClaimedPart job part claim hands) = flags
flags_after flags (reply.ClaimedPlayPart job part claim position side) = flags
flags_after flags reply.NothingWaits = flags
flags_after flags reply.Closing = flags
flags_after flags reply.Recorded = flags
flags_after flags reply.Stale = flags
flags_after flags (reply.Cancelled job) = slice_set flags (job - 1) true
flags_after flags (reply.State job state) = (if has_ended state then slice_set flags (job - 1) true else flags)
flags_after flags reply.Shut = flags
flags_after flags (reply.Fault refusal) = flags

-- the reply tells the number of a new job
abbrev pub IsNewJob : Reply → Type 0
IsNewJob (reply.Submitted job) = Unit {0}
IsNewJob (reply.Claimed job claim question) = ⊥
IsNewJob (reply.ClaimedTarget job claim question) = ⊥
IsNewJob (reply.ClaimedPart job part claim hands) = ⊥
IsNewJob (reply.ClaimedPlayPart job part claim position side) = ⊥
IsNewJob reply.NothingWaits = ⊥
IsNewJob reply.Closing = ⊥
IsNewJob reply.Recorded = ⊥
IsNewJob reply.Stale = ⊥
IsNewJob (reply.Cancelled job) = ⊥
IsNewJob (reply.State job state) = ⊥
IsNewJob reply.Shut = ⊥
IsNewJob (reply.Fault refusal) = ⊥
