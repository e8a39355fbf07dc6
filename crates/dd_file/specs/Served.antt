-- To be believed: what was written for what was read.
use Rattle.std.specs.Prelude.{◌≡◌, ℕ, ◌+◌, ◌≤◌, List, [], ◌++◌, length, Option, Result, MatchResult}
use Rattle.std.specs.Io.KnownBytes.{Consumes, Appends, IsAtEnd}
use Rattle.dd_cards.specs.Hands.{FourHands}
use Rattle.dd_lines.specs.CountedDevices.{bytes_of}
use Rattle.dd_lines.specs.declared.counted_device.CountedDevice.{CountedDevice}
use Rattle.dd_lines.specs.Served.{NoneFailed, OneFailed}
use Rattle.dd_file.specs.declared.engine.FileFault.{FileFault}
use Rattle.dd_file.specs.declared.engine.FileFault.TheVariants.{Read, Write, Memory}
use Rattle.dd_file.specs.declared.wanted.Wanted.{Wanted}
use Rattle.dd_file.specs.Filled.{Ask, Found, AreAnswers, asks, filled}
use Rattle.dd_file.specs.Notices.{Notice, Hears, games_over}
use Rattle.dd_file.specs.Told.{told_of_file}

-- all that came was read, and what was written is the file with its lines
pub record FilledAll (gives : FourHands → Option (List (List ℕ)) → Type 0) (wanted : Wanted) (read_old read_new write_old write_new : Option (List ℕ)) : Type 0 where
  pub input : List ℕ
  pub answers : List (Option Found)
  pub consumed : Consumes read_old read_new input
  pub ended : IsAtEnd read_new
  pub answered : AreAnswers gives (asks wanted input) answers
  pub written : Appends write_old write_new (filled wanted answers input)

-- The same, and by these answers the analyst was told of the games of the file, each step from state to state.
pub record FilledTelling {S : Type 0} (gives : FourHands → Option (List (List ℕ)) → Type 0) (way : S → Notice → S → Type 0) (wanted : Wanted) (before after : S)
    (read_old read_new write_old write_new : Option (List ℕ)) : Type 0 where
  pub input : List ℕ
  pub answers : List (Option Found)
  pub consumed : Consumes read_old read_new input
  pub ended : IsAtEnd read_new
  pub answered : AreAnswers gives (asks wanted input) answers
  pub written : Appends write_old write_new (filled wanted answers input)
  pub told : Hears way before (told_of_file wanted answers input) after

-- this list is a beginning of that one
pub record IsBeginning {A : Type 0} (front whole : List A) : Type 0 where
  pub rest : List A
  pub split : whole ≡ front ++ rest

-- what may follow what was read: nothing, where the reader is at its end
abbrev pub MayFollow : Option (List ℕ) → List ℕ → Type 0
MayFollow read_new rest = IsAtEnd read_new → rest ≡ []

-- the most bytes of a file that are held where more is to be read
abbrev pub most_held : ℕ
most_held = 262144

-- The run ended early. Answers are those of the first games. What was written is a beginning of the file with its lines, and what the analyst was told, each
-- step from state to state, is a beginning of what is told of the file: so it is whatever follows what was read, and whatever is answered of the other
-- games. Of each game that was answered all was told. Where a read failed, all of it but so many bytes was written, the lines of these games among them.
pub record FilledBeginning {S : Type 0} (gives : FourHands → Option (List (List ℕ)) → Type 0) (way : S → Notice → S → Type 0) (wanted : Wanted) (before after : S)
    (read_old read_new write_old write_new : Option (List ℕ)) (fault : FileFault) : Type 0 where
  pub input : List ℕ
  pub answers : List (Option Found)
  pub asked : List (Option Ask)
  pub written : List ℕ
  pub notices : List Notice
  pub consumed : Consumes read_old read_new input
  pub answered : AreAnswers gives asked answers
  pub games : (rest : List ℕ) → MayFollow read_new rest → IsBeginning asked (asks wanted (input ++ rest))
  pub begun : (more : List (Option Found)) (rest : List ℕ) → MayFollow read_new rest → IsBeginning written (filled wanted (answers ++ more) (input ++ rest))
  pub told : (more : List (Option Found)) (rest : List ℕ) → MayFollow read_new rest → IsBeginning notices (told_of_file wanted (answers ++ more) (input ++ rest))
  pub over : length answers ≤ games_over notices
  pub held : fault ≡ Read → length (filled wanted answers input) ≤ length written + most_held
  pub appended : Appends write_old write_new written
  pub hears : Hears way before notices after

-- the same over counted devices
abbrev pub FillsAll : {R W : Type 0} → (R → Option (List ℕ)) → (W → Option (List ℕ)) → (FourHands → Option (List (List ℕ)) → Type 0) → Wanted
    → CountedDevice R → CountedDevice R → CountedDevice W → CountedDevice W → Type 0
FillsAll remaining contents gives wanted reader_old reader_new writer_old writer_new =
    FilledAll gives wanted (bytes_of remaining reader_old) (bytes_of remaining reader_new) (bytes_of contents writer_old) (bytes_of contents writer_new)

abbrev pub FillsTelling : {R W S : Type 0} → (R → Option (List ℕ)) → (W → Option (List ℕ)) → (FourHands → Option (List (List ℕ)) → Type 0)
    → (S → Notice → S → Type 0) → Wanted → S → S → CountedDevice R → CountedDevice R → CountedDevice W → CountedDevice W → Type 0
FillsTelling remaining contents gives way wanted before after reader_old reader_new writer_old writer_new =
    FilledTelling gives way wanted before after (bytes_of remaining reader_old) (bytes_of remaining reader_new) (bytes_of contents writer_old) (bytes_of contents writer_new)

abbrev pub FillsBeginning : {R W S : Type 0} → (R → Option (List ℕ)) → (W → Option (List ℕ)) → (FourHands → Option (List (List ℕ)) → Type 0)
    → (S → Notice → S → Type 0) → Wanted → S → S → CountedDevice R → CountedDevice R → CountedDevice W → CountedDevice W → FileFault → Type 0
FillsBeginning remaining contents gives way wanted before after reader_old reader_new writer_old writer_new fault =
    FilledBeginning gives way wanted before after (bytes_of remaining reader_old) (bytes_of remaining reader_new) (bytes_of contents writer_old) (bytes_of contents writer_new) fault

-- which calls failed, by what ended the run
abbrev pub FailedBy : {R W : Type 0} → CountedDevice R → CountedDevice R → CountedDevice W → CountedDevice W → FileFault → Type 0
FailedBy reader_old reader_new writer_old writer_new Read = OneFailed reader_old reader_new × NoneFailed writer_old writer_new
FailedBy reader_old reader_new writer_old writer_new Write = NoneFailed reader_old reader_new × OneFailed writer_old writer_new
FailedBy reader_old reader_new writer_old writer_new Memory = NoneFailed reader_old reader_new × NoneFailed writer_old writer_new

-- no call failed but the one that the fault tells of
abbrev pub StopsAtFirstFailure : {R W : Type 0} → CountedDevice R → CountedDevice R → CountedDevice W → CountedDevice W
    → Result (Unit {0}) FileFault → Type 0
StopsAtFirstFailure reader_old reader_new writer_old writer_new result =
    MatchResult result (λ _. NoneFailed reader_old reader_new × NoneFailed writer_old writer_new)
    (FailedBy reader_old reader_new writer_old writer_new)

-- no write failed, or the fault tells of the one that did, or of memory
abbrev pub FailedWriteBy : {W : Type 0} → CountedDevice W → CountedDevice W → FileFault → Type 0
FailedWriteBy old new Read = ⊥
FailedWriteBy old new Write = OneFailed old new
FailedWriteBy old new Memory = NoneFailed old new

abbrev pub StopsAtWrite : {W : Type 0} → CountedDevice W → CountedDevice W → Result (Unit {0}) FileFault → Type 0
StopsAtWrite old new result = MatchResult result (λ _. NoneFailed old new) (FailedWriteBy old new)
