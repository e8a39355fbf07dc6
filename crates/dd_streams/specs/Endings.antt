-- To be believed: how a run ends, with which status, and what becomes of the three standard streams.
use Rattle.std.specs.Prelude.{◌≡◌, ◌⊎◌, ℕ, List, [], Bool, Option, Some, None, Result, Ok, Err, Vec, String, codes, map, string_bytes}
use Rattle.std.specs.Io.KnownBytes.{Appends}
use Rattle.clap.specs.Kinds.{IsAmong}
use Rattle.clap.specs.Faults.{fault_of}
use Rattle.clap.specs.declared.error.kind.ErrorKind.{ErrorKind}
use Rattle.clap.specs.declared.error.kind.ErrorKind.TheVariants as kind
use Rattle.dd_lines.specs.declared.counted_device.CountedDevice.{CountedDevice}
use Rattle.dd_lines.specs.CountedDevices.{bytes_of, failures_of, FailedOnce}
use Rattle.dd_lines.specs.Served.{WroteText}
use Rattle.dd_tool.specs.Served.{IsReplyAs, ToldAll, ToldBeginning}
use Rattle.dd_command.specs.declared.command_line.Args.{Args}
use Rattle.dd_command.specs.declared.command_line.Args.TheVariants.{Fill, Serve, Solve}
use Rattle.dd_command.specs.declared.command_line.ArgumentsFault.{ArgumentsFault}
use Rattle.dd_command.specs.declared.command_line.ArgumentsFault.TheVariants.{NotText, OutOfMemory as NoMemory}
use Rattle.dd_command.specs.CommandLine.{Text, Asks, IsInRange}
use Rattle.dd_command.specs.Program.{program_app}
use Rattle.dd_streams.specs.declared.ending.Ending.{Ending}
use Rattle.dd_streams.specs.declared.ending.Ending.TheVariants.{Answered, Shown, Closed, Filled, BadLine, ReadFailed, WriteFailed, CannotListen, ListenFailed, OutOfMemory}
use Rattle.dd_streams.specs.declared.options.ServeOptions.{ServeOptions}
use Rattle.dd_streams.specs.ListenFaults.{line_of_fault}
use Rattle.dd_streams.specs.Tags.{wanted_by}
use Rattle.dd_file.specs.declared.engine.FileFault.{FileFault}
use Rattle.dd_file.specs.declared.engine.FileFault.TheVariants as file
use Rattle.dd_file.specs.declared.wanted.Wanted.{Wanted}
use Rattle.dd_fill.specs.Said.{Sink}
use Rattle.dd_fill.specs.Served.{FilledInPart, FilledSaying}
use Rattle.dd_bounds.specs.Spent.{IsSpent}

-- the program's status after this ending
abbrev pub status_of : Ending → ℕ
status_of Answered = 0
status_of Shown = 0
status_of Closed = 0
status_of Filled = 0
status_of ReadFailed = 1
status_of WriteFailed = 1
status_of (CannotListen fault) = 1
status_of ListenFailed = 1
status_of OutOfMemory = 1
status_of BadLine = 2

-- the line that the standard error gets of a failure
abbrev pub line_of : Ending → List ℕ
line_of ReadFailed = codes "ddserve: read failed\n"
line_of WriteFailed = codes "ddserve: write failed\n"
line_of (CannotListen fault) = line_of_fault fault
line_of ListenFailed = codes "ddserve: listen failed\n"
line_of OutOfMemory = codes "ddserve: out of memory\n"
line_of _ = []

-- ---- what the arguments ask for

-- the arguments that the program was started with, or why they can't be had
abbrev pub Words : Type 0
Words = Result (List Text) ArgumentsFault

-- the same of the arguments as strings
abbrev pub arguments_of : {A B : Type 0} → Result (Vec (String A) B) ArgumentsFault → Words
arguments_of (Ok arguments) = Ok (map string_bytes arguments.items)
arguments_of (Err fault) = Err fault

-- the arguments ask for this
abbrev pub AskFor : Words → Args → Type 0
AskFor (Ok arguments) args = Asks arguments args
AskFor (Err fault) args = ⊥

-- the arguments ask for nothing
abbrev pub AskForNothing : Words → Type 0
AskForNothing arguments = (args : Args) → ¬ AskFor arguments args

-- The arguments have an error of this kind: one of them is no text, or the parser of arguments counts it among their errors.
abbrev pub HaveError : Words → ErrorKind → Type 0
HaveError (Ok arguments) error = IsAmong error (fault_of program_app arguments)
HaveError (Err NotText) error = error ≡ kind.InvalidValue
HaveError (Err NoMemory) error = ⊥

-- a call for help or for the version, which the parser of arguments counts as an error
abbrev pub IsCall : ErrorKind → Type 0
IsCall error = (error ≡ kind.DisplayHelp) ⊎ (error ≡ kind.DisplayVersion)

-- why arguments are not done: memory ran out, or they ask for nothing and have this error
abbrev pub Explains : Words → ErrorKind → Type 0
Explains arguments error = (error ≡ kind.OutOfMemory) ⊎ (AskForNothing arguments × HaveError arguments error)

-- ---- what becomes of the streams

-- what is known of a device: the bytes that it has left to read, or those that it was given, and its failed calls
pub record Device : Type 0 where
  pub bytes : Option (List ℕ)
  pub failures : ℕ

-- the same of a reader or a writer, by what it knows of its bytes
abbrev pub state_of : {T : Type 0} → (T → Option (List ℕ)) → CountedDevice T → Device
state_of bytes counted = record { bytes = bytes_of bytes counted; failures = failures_of counted }

-- the standard input, output and error
pub record Streams : Type 0 where
  pub input : Device
  pub output : Device
  pub errors : Device

-- the three of them
abbrev pub streams : Device → Device → Device → Streams
streams input output errors = record { input = input; output = output; errors = errors }

-- one call failed
abbrev pub Fails : Device → Device → Type 0
Fails old new = FailedOnce old.failures new.failures

-- the text was written, and no call failed
abbrev pub WritesAll : List ℕ → Device → Device → Type 0
WritesAll text old new = Appends old.bytes new.bytes text × (new.failures ≡ old.failures)

-- a beginning of the text was written, and then a call failed
abbrev pub WritesBeginning : List ℕ → Device → Device → Type 0
WritesBeginning text old new = WroteText old.bytes new.bytes text × Fails old new

-- the text was written as far as the device took it
abbrev pub Writes : List ℕ → Device → Device → Type 0
Writes text old new = WritesAll text old new ⊎ WritesBeginning text old new

-- memory ran out before anything was read or written, and that was said
pub record RunsOut (old new : Streams) : Type 0 where
  pub input : new.input ≡ old.input
  pub output : new.output ≡ old.output
  pub said : Writes (line_of OutOfMemory) old.errors new.errors

-- ---- lines are answered, each by a reply of this kind

-- all that came was read, each line of it was answered, and no call failed
pub record SolvesAll (Reply : List ℕ → List ℕ → Type 0) (old new : Streams) : Type 0 where
  pub served : ToldAll Reply old.input.bytes new.input.bytes old.output.bytes new.output.bytes
  pub reads : new.input.failures ≡ old.input.failures
  pub writes : new.output.failures ≡ old.output.failures

-- what was written is a beginning of the replies to what was read
abbrev pub SolvesBeginning : (List ℕ → List ℕ → Type 0) → Streams → Streams → Type 0
SolvesBeginning Reply old new =
    ToldBeginning Reply old.input.bytes new.input.bytes old.output.bytes new.output.bytes

-- a read failed, and what was written is a beginning of the replies
pub record FailsToRead (Reply : List ℕ → List ℕ → Type 0) (old new : Streams) : Type 0 where
  pub served : SolvesBeginning Reply old new
  pub reads : Fails old.input new.input
  pub writes : new.output.failures ≡ old.output.failures
  pub said : Writes (line_of ReadFailed) old.errors new.errors

-- a write failed, and what was written is a beginning of the replies
pub record FailsToWrite (Reply : List ℕ → List ℕ → Type 0) (old new : Streams) : Type 0 where
  pub served : SolvesBeginning Reply old new
  pub reads : new.input.failures ≡ old.input.failures
  pub writes : Fails old.output new.output
  pub said : Writes (line_of WriteFailed) old.errors new.errors

-- the lines of the input are answered, each by such a reply, up to this ending
abbrev pub SolvesUntil : (List ℕ → List ℕ → Type 0) → Streams → Streams → Ending → Type 0
SolvesUntil Reply old new Answered = SolvesAll Reply old new × (new.errors ≡ old.errors)
SolvesUntil Reply old new ReadFailed = FailsToRead Reply old new
SolvesUntil Reply old new WriteFailed = FailsToWrite Reply old new
SolvesUntil Reply old new OutOfMemory = RunsOut old new
SolvesUntil Reply old new _ = ⊥

-- ---- a file is filled

-- what is known of the standard error
abbrev pub sink_of : Device → Sink
sink_of device = record { bytes = device.bytes; failures = device.failures }

-- all that came was read and passed on with its lines, it was said of each game that lacks one why, and no call of these two devices failed
pub record FillsFile (spent : Type 0) (wanted : Wanted) (shows : Bool) (old new : Streams) : Type 0 where
  pub filled : FilledSaying spent wanted shows old.input.bytes new.input.bytes old.output.bytes new.output.bytes (sink_of old.errors) (sink_of new.errors)
  pub reads : new.input.failures ≡ old.input.failures
  pub writes : new.output.failures ≡ old.output.failures

-- What was written is a beginning of that for what was read, and so is what was said of its games on the standard error, up to this state of it.
abbrev pub FillsInPart : Type 0 → Wanted → Bool → Streams → Streams → Device → FileFault → Type 0
FillsInPart spent wanted shows old new noted fault =
    FilledInPart spent wanted shows old.input.bytes new.input.bytes old.output.bytes new.output.bytes (sink_of old.errors) (sink_of noted) fault

-- a read failed, and what was written is a beginning of what was to come; that was said behind the notes of games
pub record FailsToReadFile (spent : Type 0) (wanted : Wanted) (shows : Bool) (old new : Streams) : Type 0 where
  pub noted : Device
  pub filled : FillsInPart spent wanted shows old new noted file.Read
  pub reads : Fails old.input new.input
  pub writes : new.output.failures ≡ old.output.failures
  pub said : Writes (line_of ReadFailed) noted new.errors

-- the same of a write
pub record FailsToWriteFile (spent : Type 0) (wanted : Wanted) (shows : Bool) (old new : Streams) : Type 0 where
  pub noted : Device
  pub filled : FillsInPart spent wanted shows old new noted file.Write
  pub reads : new.input.failures ≡ old.input.failures
  pub writes : Fails old.output new.output
  pub said : Writes (line_of WriteFailed) noted new.errors

-- the same where memory ran out, and no call failed
pub record RunsOutOfMemory (spent : Type 0) (wanted : Wanted) (shows : Bool) (old new : Streams) : Type 0 where
  pub noted : Device
  pub filled : FillsInPart spent wanted shows old new noted file.Memory
  pub reads : new.input.failures ≡ old.input.failures
  pub writes : new.output.failures ≡ old.output.failures
  pub said : Writes (line_of OutOfMemory) noted new.errors

-- how it ends
abbrev pub ending_of : Result (Unit {0}) FileFault → Ending
ending_of (Ok done) = Filled
ending_of (Err file.Read) = ReadFailed
ending_of (Err file.Write) = WriteFailed
ending_of (Err file.Memory) = OutOfMemory

-- the input is passed on with the lines that are wanted, up to this ending; the progress is shown, or not
abbrev pub EndsFilling : Type 0 → Wanted → Bool → Streams → Streams → Ending → Type 0
EndsFilling spent wanted shows old new Filled = FillsFile spent wanted shows old new
EndsFilling spent wanted shows old new ReadFailed = FailsToReadFile spent wanted shows old new
EndsFilling spent wanted shows old new WriteFailed = FailsToWriteFile spent wanted shows old new
EndsFilling spent wanted shows old new OutOfMemory = RunsOut old new ⊎ RunsOutOfMemory spent wanted shows old new
EndsFilling spent wanted shows old new _ = ⊥

-- what is said where a name is no tag's
abbrev pub tags_line : List ℕ
tags_line = codes "ddserve: --tags takes DoubleDummyTricks, OptimumScore, ParContract and OptimumResultTable, with commas between them\n"

-- that is said, and nothing else is done
pub record RefusesTags (ending : Ending) (old new : Streams) : Type 0 where
  pub ends : ending ≡ BadLine
  pub input : new.input ≡ old.input
  pub output : new.output ≡ old.output
  pub said : Writes tags_line old.errors new.errors

-- the same of tags that a text names, or not
abbrev pub FillsWanted : Option Wanted → Option ℕ → Bool → Streams → Streams → Ending → Type 0
FillsWanted None budget shows old new ending = RefusesTags ending old new
FillsWanted (Some wanted) budget shows old new ending = EndsFilling (IsSpent budget) wanted shows old new ending

abbrev pub FillsUntil : List ℕ → Option ℕ → Bool → Streams → Streams → Ending → Type 0
FillsUntil tags budget shows old new ending = FillsWanted (wanted_by tags) budget shows old new ending

-- ---- an error is shown

-- a call was shown on the output
pub record Shows (error : ErrorKind) (old new : Streams) : Type 0 where
  pub call : IsCall error
  pub input : new.input ≡ old.input
  pub output : (text : List ℕ) × WritesAll text old.output new.output
  pub errors : new.errors ≡ old.errors

-- a call was shown up to where a write failed
pub record FailsToShow (error : ErrorKind) (old new : Streams) : Type 0 where
  pub call : IsCall error
  pub input : new.input ≡ old.input
  pub output : (text : List ℕ) × WritesBeginning text old.output new.output
  pub said : Writes (line_of WriteFailed) old.errors new.errors

-- an error that is no call was shown on the standard error, as far as that took it
pub record Refuses (error : ErrorKind) (old new : Streams) : Type 0 where
  pub call : ¬ IsCall error
  pub input : new.input ≡ old.input
  pub output : new.output ≡ old.output
  pub said : (text : List ℕ) × Writes text old.errors new.errors

-- an error of this kind is shown, up to this ending
abbrev pub ShowsUntil : ErrorKind → Streams → Streams → Ending → Type 0
ShowsUntil error old new Shown = Shows error old new
ShowsUntil error old new WriteFailed = FailsToShow error old new
ShowsUntil error old new BadLine = Refuses error old new
ShowsUntil error old new OutOfMemory = RunsOut old new
ShowsUntil error old new _ = ⊥

-- ---- the run

-- What the arguments ask for is done on the streams, up to this ending; progress is shown where the standard error is a terminal. No
-- server works on these alone.
abbrev pub DoneUntil : Bool → Args → Streams → Streams → Ending → Type 0
DoneUntil is_terminal (Solve budget entries workers explain) old new ending = SolvesUntil (IsReplyAs explain budget) old new ending
DoneUntil is_terminal (Serve listen workers shards entries budget events idle websocket allow_stop explain) old new ending = ⊥
DoneUntil is_terminal (Fill tags budget entries workers) old new ending = FillsUntil (string_bytes tags) budget is_terminal old new ending

-- the arguments that ask for a server with these options
abbrev pub serve_by : ServeOptions → Args
serve_by o = Serve o.listen o.workers o.shards o.entries o.budget o.events o.idle o.websocket o.allow_stop o.explain

-- What a run on the streams does up to its ending: it answers lines or fills a file where the arguments ask for that, and else shows
-- their error; or memory ran out before either. Where they ask for a server it does nothing, and tells the options.
abbrev pub RunsOnStreams : Words → Bool → Streams → Streams → Result Ending ServeOptions → Type 0
RunsOnStreams arguments is_terminal old new (Ok ending) =
    ((args : Args) × AskFor arguments args × DoneUntil is_terminal args old new ending)
    ⊎ ((error : ErrorKind) × AskForNothing arguments × HaveError arguments error × ShowsUntil error old new ending)
    ⊎ ((ending ≡ OutOfMemory) × RunsOut old new)
RunsOnStreams arguments is_terminal old new (Err options) = AskFor arguments (serve_by options) × IsInRange (serve_by options) × (new ≡ old)

-- ---- the run of a program without a server

-- what is said where a program without a server is asked for one
abbrev pub no_server_line : List ℕ
no_server_line = codes "ddserve: this program has no server; ./ddserve serve starts the one that has\n"

-- the arguments ask for a server with these options; that there is none was said, and nothing else was done
pub record RefusesServer (arguments : Words) (ending : Ending) (old new : Streams) : Type 0 where
  pub options : ServeOptions
  pub asks : AskFor arguments (serve_by options)
  pub ends : ending ≡ BadLine
  pub input : new.input ≡ old.input
  pub output : new.output ≡ old.output
  pub said : Writes no_server_line old.errors new.errors

-- What a run without a server does up to its ending: what a run on the streams does, or it refuses a server where the arguments ask for
-- one.
abbrev pub RunsWithoutServer : Words → Bool → Streams → Streams → Ending → Type 0
RunsWithoutServer arguments is_terminal old new ending =
    RunsOnStreams arguments is_terminal old new (Ok ending) ⊎ RefusesServer arguments ending old new

-- the same ending where a run has one, with nothing more said; a bad line where it has none, of which just that is said
abbrev pub EndsWithoutServer : Result Ending ServeOptions → Device → Device → Ending → Type 0
EndsWithoutServer (Ok ends) old new ending = (ending ≡ ends) × (new ≡ old)
EndsWithoutServer (Err options) old new ending = (ending ≡ BadLine) × Writes no_server_line old new
