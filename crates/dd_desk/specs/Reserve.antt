-- To be believed: the events of a journal that are reserved, so that each job that was taken can end, and be told once.
use Rattle.std.specs.Prelude.{◌≡◌, ◌⊎◌, ℕ, zero, suc, ◌+◌, ◌*◌, ◌-◌, ◌<◌, ◌≤◌, ◌&&◌, Bool, true, false, List, [], ◌∷◌, ◌++◌, length, max, nat_eq, Some, IsSome, if◌then◌else◌}
use Rattle.std.specs.List.{count_by, list_any}
use Rattle.dd_book.specs.declared.call.Call.{Call}
use Rattle.dd_book.specs.declared.call.Call.TheVariants.{Submit, Claim, Finish, Cancel, Fetch, Shut}
use Rattle.dd_book.specs.declared.call.Outcome.TheVariants.{Stopped}
use Rattle.dd_book.specs.declared.call.JobState.{JobState}
use Rattle.dd_book.specs.declared.call.JobState.TheVariants as shown
use Rattle.dd_book.specs.declared.call.Reply.{Reply}
use Rattle.dd_book.specs.declared.call.Reply.TheVariants as reply
use Rattle.dd_book.specs.Limits.{LimitsOf}
use Rattle.dd_book.specs.Jobs.{JobOf, is_open, is_open_job, next_turn, own_job}
use Rattle.dd_book.specs.Calls.{BookOf, finish_reply, reply_of}
use Rattle.dd_book.specs.Counts.{running_in, waiting_in}
use Rattle.dd_desk.specs.Events.{EventOf, IsLegal, event, replay}
use Rattle.dd_desk.specs.Faults.{MatchDeskFault}
use Rattle.dd_desk.specs.Receipts.{HasReceipts, PassOf}
use Rattle.dd_desk.specs.Sightings.{WasRefused, WasSeen}
use Rattle.dd_desk.specs.declared.fault.DeskFault.{DeskFault}

-- a state that a job keeps
abbrev pub has_ended : JobState → Bool
has_ended shown.Waiting = false
has_ended shown.Running = false
has_ended (shown.Done solved) = true
has_ended (shown.TableDone table) = true
has_ended (shown.TargetDone solved) = true
has_ended (shown.PlayDone tricks) = true
has_ended shown.Cancelled = true
has_ended shown.Spent = true

-- the reply tells that the job of this number has ended: to its cancel, or to a fetch
abbrev pub tells_end : ℕ → Reply → Bool
tells_end number (reply.Submitted job) = false
tells_end number (reply.Claimed job claim question) = false
tells_end number (reply.ClaimedTarget job claim question) = false
tells_end number (reply.ClaimedPart job part claim hands) = false
tells_end number (reply.ClaimedPlayPart job part claim position side) = false
tells_end number reply.NothingWaits = false
tells_end number reply.Closing = false
tells_end number reply.Recorded = false
tells_end number reply.Stale = false
tells_end number (reply.Cancelled job) = nat_eq job number
tells_end number (reply.State job state) = nat_eq job number && has_ended state
tells_end number reply.Shut = false
tells_end number (reply.Fault refusal) = false

-- some reply of the journal tells it
abbrev pub is_told : ℕ → List EventOf → Bool
is_told number journal = list_any (λ (e : EventOf). tells_end number e.reply) journal

-- of the jobs 1 to n, how many are those of which no reply tells it
unfoldable pub untold : ℕ → List EventOf → ℕ
untold zero journal = 0
untold (suc n) journal = untold n journal + (if is_told (n + 1) journal then 0 else 1)

-- a finish, whatever it was told
abbrev pub is_finish : Call → Bool
is_finish (Submit caller asked) = false
is_finish (Claim worker) = false
is_finish (Finish worker job claim outcome) = true
is_finish (Cancel caller job) = false
is_finish (Fetch caller job) = false
is_finish Shut = false

abbrev pub finishes_in : List EventOf → ℕ
finishes_in journal = count_by (λ (e : EventOf). is_finish e.call) journal

-- The finishes that are to come: of each part that runs one, and as many as there were more claims that got a part than
-- finishes. They differ where a job was cancelled, or its budget ran out, while other parts of it ran.
abbrev pub finishes_due : BookOf → List EventOf → ℕ
finishes_due book journal = max (running_in book.jobs) (book.claims - finishes_in journal)

-- Events to come of what a book has after a journal: for each part that waits a claim and a finish, the finishes that are due,
-- for each job that its caller is told once that it has ended, and a shut, where there was none.
abbrev pub reserved_in : BookOf → List EventOf → ℕ
reserved_in book journal =
    2 * waiting_in book.jobs + finishes_due book journal + untold (length book.jobs) journal + (if book.shut then 0 else 1)

-- how many events are reserved after a journal
abbrev pub reserved : LimitsOf → List EventOf → ℕ
reserved limits journal = reserved_in (replay limits journal) journal

-- the journal has room for them
abbrev pub HasReserve : LimitsOf → List EventOf → Type 0
HasReserve limits journal = length journal + reserved limits journal ≤ limits.events

-- a journal with the event of one call more
abbrev pub journal_after : LimitsOf → List EventOf → ℕ → Call → List EventOf
journal_after limits journal caller call = journal ++ event caller call (reply_of (replay limits journal) call) ∷ []

-- a call may join the journal: it has room for what is reserved then
abbrev pub HasRoom : LimitsOf → List EventOf → ℕ → Call → Type 0
HasRoom limits journal caller call = HasReserve limits (journal_after limits journal caller call)

-- This call of this pass was refused so at a desk of these limits, after a journal in which all receipts of the pass stand: as a full
-- journal exactly where it has no room for the call. One thread could have made the journal.
pub record IsRefused (limits : LimitsOf) (pass : PassOf) (call : Call) (fault : DeskFault) : Type 0 where
  pub journal : List EventOf
  pub legal : IsLegal limits journal
  pub was : WasRefused limits journal pass.number call fault
  pub has : HasReceipts journal pass
  pub reserve : HasReserve limits journal
  pub why : MatchDeskFault fault (HasRoom limits journal pass.number call → ⊥) (HasRoom limits journal pass.number call)

-- So many events are neither made nor reserved after a journal that was seen at a desk of these limits. One thread could have
-- made it.
pub record SeesFree (limits : LimitsOf) (free : ℕ) : Type 0 where
  pub journal : List EventOf
  pub legal : IsLegal limits journal
  pub was : WasSeen limits journal
  pub sees : length journal + reserved limits journal + free ≡ limits.events

-- ---- what is reserved for

-- A call that an event is reserved for: a claim that gets a part; a finish that is recorded, of a search that wasn't stopped, or
-- one that is stale, while finishes are due beside those of the parts that run; the cancel of the caller's own open job;
-- the first fetch of its own job that has ended; the first shut.
abbrev pub IsReserved : BookOf → List EventOf → Call → Type 0
IsReserved book journal (Submit caller asked) = ⊥
IsReserved book journal (Claim worker) = IsSome (next_turn book.jobs)
IsReserved book journal (Finish worker job claim outcome) =
    ((finish_reply book worker job claim outcome ≡ reply.Recorded) × (outcome ≡ Stopped → ⊥))
    ⊎ ((finish_reply book worker job claim outcome ≡ reply.Stale) × (running_in book.jobs + finishes_in journal < book.claims))
IsReserved book journal (Cancel caller job) = is_open_job (own_job book.jobs caller job) ≡ true
IsReserved book journal (Fetch caller job) =
    (own : JobOf) × (own_job book.jobs caller job ≡ Some own) × (is_open own ≡ false) × (is_told job journal ≡ false)
IsReserved book journal Shut = book.shut ≡ false

-- each such call has room, at whatever desk, after whatever journal, as long as the journal kept its reserve
abbrev pub ReserveServes : Type 0
ReserveServes =
    (limits : LimitsOf) (journal : List EventOf) (caller : ℕ) (call : Call) → IsLegal limits journal → HasReserve limits journal
    → IsReserved (replay limits journal) journal call → HasRoom limits journal caller call
