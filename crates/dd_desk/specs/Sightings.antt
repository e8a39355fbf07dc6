-- To be believed: that a journal was seen at a desk, how many passes it had given, that a call was refused there, and that a wait was cut off.
use Rattle.std.specs.Prelude.{◌≡◌, ◌⊎◌, ◌≤◌, ℕ, Bool, true, List}
use Rattle.dd_book.specs.declared.call.Call.{Call}
use Rattle.dd_book.specs.Limits.{LimitsOf}
use Rattle.dd_desk.specs.declared.fault.DeskFault.{DeskFault}
use Rattle.dd_desk.specs.Events.{EventOf, IsLegal}
use Rattle.dd_desk.specs.Faults.{IsOfCall}

-- A desk of these limits had this journal when its lock was held. The word is closed, so that nothing shows it but `seen-journal`,
-- and the gate sees to it that only what lies under the lock calls that, with its own journal.
pub WasSeen : LimitsOf → List EventOf → Type 0
WasSeen limits journal = Unit {0}

-- under the lock
pub seen-journal : (limits : LimitsOf) (journal : List EventOf) → IsLegal limits journal → WasSeen limits journal
unfolding WasSeen
seen-journal limits journal legal = tt

-- A desk of these limits had given so many passes when its lock was held. This word is closed as well, and `passes-given` stands
-- only where they are counted.
pub HasGiven : LimitsOf → ℕ → Type 0
HasGiven limits count = Unit {0}

-- under the lock
pub passes-given : (limits : LimitsOf) (count : ℕ) → count ≤ limits.passes → HasGiven limits count
unfolding HasGiven
passes-given limits count most = tt

-- it had given as many as it may
abbrev pub HasNoPassLeft : LimitsOf → Type 0
HasNoPassLeft limits = HasGiven limits limits.passes

-- A desk of these limits refused this call of the caller of this number so, after this journal. The word is closed too: nothing
-- shows it but `refused-call`, and that stands where a call at a desk ends with a fault, and nowhere else.
pub WasRefused : LimitsOf → List EventOf → ℕ → Call → DeskFault → Type 0
WasRefused limits journal caller call fault = Unit {0}

-- where a call ends with a fault
pub refused-call : (limits : LimitsOf) (journal : List EventOf) (caller : ℕ) (call : Call) (fault : DeskFault) → IsOfCall fault → WasRefused limits journal caller call fault
unfolding WasRefused
refused-call limits journal caller call fault of-call = tt

-- it refused this call of the caller of this number so, after some journal
abbrev pub RefusesCall : LimitsOf → ℕ → Call → DeskFault → Type 0
RefusesCall limits caller call fault = (journal : List EventOf) × WasRefused limits journal caller call fault

-- A fetch at a desk that was to wait so many nanoseconds was cut off: they were over, or the book was shut. This word is closed as
-- well, and `cut-wait` stands only where such a fetch ends.
pub CutsWait : ℕ → Type 0
CutsWait nanoseconds = Unit {0}

-- where a fetch that waited ends
pub cut-wait : (nanoseconds : ℕ) (over shut : Bool) → (over ≡ true) ⊎ (shut ≡ true) → CutsWait nanoseconds
unfolding CutsWait
cut-wait nanoseconds over shut either = tt
