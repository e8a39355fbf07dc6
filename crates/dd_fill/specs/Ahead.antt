-- What was searched for ahead, and what was written with its help.
use Rattle.std.specs.Prelude.{◌≡◌, ℕ, Bool, List, Option, Result, IfErr, OnOk}
use Rattle.dd_cards.specs.declared.strain.Strain.{Strain}
use Rattle.dd_cards.specs.Hands.{FourHands}
use Rattle.dd_lines.specs.declared.counted_device.CountedDevice.{CountedDevice}
use Rattle.dd_file.specs.declared.engine.FileFault.{FileFault}
use Rattle.dd_file.specs.declared.wanted.Wanted.{Wanted}
use Rattle.dd_file.specs.Notices.{Notice}
use Rattle.dd_file.specs.Served.{FillsTelling, FillsBeginning, StopsAtFirstFailure}
use Rattle.dd_fill.specs.Told.{IsTold}
use Rattle.dd_fill.specs.Said.{SaysNotice, Sink}
use Rattle.dd_fill.specs.Served.{Fills}

-- a strain of a deal, a budget, and what was found within it
pub record AnsweredOf : Type 0 where
  pub deal : FourHands
  pub strain : Strain
  pub budget : Option ℕ
  pub row : Option (List ℕ)

-- `Fills`, as a word that only proofs which ask for it open: so it goes through the calls of threads as it is
unfoldable pub FillsFile : {R W : Type 0} → (R → Option (List ℕ)) → (W → Option (List ℕ)) → Type 0 → Wanted → Bool
    → CountedDevice R → CountedDevice R → CountedDevice W → CountedDevice W → Sink → Sink → Result (Unit {0}) FileFault → Type 0
FillsFile remaining contents spent wanted shows reader_old reader_new writer_old writer_new errors_old errors_new result =
    Fills remaining contents spent wanted shows reader_old reader_new writer_old writer_new errors_old errors_new result

-- What is known of who says which games are left: the names of its references to the table and to the device, whether it shows progress, and the
-- device.
pub record SayingOf : Type 0 where
  pub table : ℕ
  pub reference : ℕ
  pub shows : Bool
  pub errors : Sink

-- it says what it is told, over the same references
pub record SaysTold (before : SayingOf) (notice : Notice) (after : SayingOf) : Type 0 where
  pub table : after.table ≡ before.table
  pub reference : after.reference ≡ before.reference
  pub shows : after.shows ≡ before.shows
  pub says : SaysNotice before.shows before.errors notice after.errors

-- What was written, and what was said of its games while it was.
pub record FillsSaying {R W : Type 0} (remaining : R → Option (List ℕ)) (contents : W → Option (List ℕ)) (spent : Type 0) (wanted : Wanted) (shows : Bool)
    (reader_old reader_new : CountedDevice R) (writer_old writer_new : CountedDevice W) (errors_old errors_new : Sink) (result : Result (Unit {0}) FileFault) : Type 0 where
  pub ok : OnOk result (FillsTelling remaining contents (IsTold spent) (SaysNotice shows) wanted errors_old errors_new reader_old reader_new writer_old writer_new)
  pub err : IfErr result (FillsBeginning remaining contents (IsTold spent) (SaysNotice shows) wanted errors_old errors_new reader_old reader_new writer_old writer_new)
  pub first : StopsAtFirstFailure reader_old reader_new writer_old writer_new result
