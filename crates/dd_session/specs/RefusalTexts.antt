-- To be believed: the text of a refusal, of the book and of the desk, with its number alone or explained.
use Rattle.std.specs.Prelude.{ℕ, Bool, true, false, List, Option, None, Some, codes}
use Rattle.dd_book.specs.declared.call.Refusal.{Refusal}
use Rattle.dd_book.specs.declared.call.Refusal.TheVariants.{OpenJobs, BookFull, UnknownJob, JobEnded, ShuttingDown}
use Rattle.dd_book.specs.Refusals.{refusal_number}
use Rattle.dd_desk.specs.declared.fault.DeskFault.{DeskFault}
use Rattle.dd_desk.specs.declared.fault.DeskFault.TheVariants.{NoPass, JournalFull, OutOfMemory}
use Rattle.dd_desk.specs.Faults.{fault_number}
use Rattle.dd_wire.specs.declared.fault.Fault.TheVariants as line
use Rattle.dd_wire.specs.FaultWords.{explained_text, words_of}
use Rattle.dd_wire.specs.Replies.{numbered_fault_text}

-- the words of each refusal of the book
abbrev pub refusal_words : Refusal → List ℕ
refusal_words OpenJobs = codes "this connection has as many open jobs as it may have"
refusal_words BookFull = codes "the list of the run's jobs is full"
refusal_words UnknownJob = codes "this connection has no job of that number"
refusal_words JobEnded = codes "the job has ended, and there is nothing to cancel"
refusal_words ShuttingDown = codes "the server is closing and takes no more jobs"

-- the field that it tells of: an unknown job is one that was named
abbrev pub refusal_field : Refusal → Option (List ℕ)
refusal_field UnknownJob = Some (codes "job")
refusal_field OpenJobs = None
refusal_field BookFull = None
refusal_field JobEnded = None
refusal_field ShuttingDown = None

-- {"fault":n}, or {"fault":n,"field":"f","text":"t"}, where the book refuses
abbrev pub refused_text : Bool → Refusal → List ℕ
refused_text false refusal = numbered_fault_text (refusal_number refusal)
refused_text true refusal = explained_text (refusal_number refusal) (refusal_field refusal) (refusal_words refusal)

-- the words of each fault of a desk
abbrev pub desk_words : DeskFault → List ℕ
desk_words NoPass = codes "the run has as many connections as it may have"
desk_words JournalFull = codes "the run of this connection is used up, and the next one serves who connects anew"
desk_words OutOfMemory = words_of line.OutOfMemory

-- {"fault":n}, or {"fault":n,"text":"t"}, where a desk refuses
abbrev pub refusal_text : Bool → DeskFault → List ℕ
refusal_text false fault = numbered_fault_text (fault_number fault)
refusal_text true fault = explained_text (fault_number fault) None (desk_words fault)
