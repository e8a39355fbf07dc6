-- To be believed: what was written for what was read, by the results of deals.
use Rattle.std.specs.Prelude.{ℕ, Bool, List, Option, Result, IfErr, OnOk}
use Rattle.dd_lines.specs.declared.counted_device.CountedDevice.{CountedDevice}
use Rattle.dd_lines.specs.CountedDevices.{bytes_of}
use Rattle.dd_file.specs.Served.{FilledBeginning, FilledTelling, StopsAtFirstFailure}
use Rattle.dd_file.specs.declared.engine.FileFault.{FileFault}
use Rattle.dd_file.specs.declared.wanted.Wanted.{Wanted}
use Rattle.dd_fill.specs.Said.{SaysAll, SaysNotice, Sink, clear_texts}
use Rattle.dd_fill.specs.Told.{IsTold}

-- All was read, and what was written is the file with its lines, by the results of its deals. What was said is what is told of its games, by
-- these results, and nothing else.
pub record FilledSaying (spent : Type 0) (wanted : Wanted) (shows : Bool) (read_old read_new write_old write_new : Option (List ℕ)) (errors_old errors_new : Sink) : Type 0 where
  pub between : Sink
  pub filled : FilledTelling (IsTold spent) (SaysNotice shows) wanted errors_old between read_old read_new write_old write_new
  pub cleared : SaysAll (clear_texts shows) between errors_new

-- The run ended early. What was written, and what was said of the games, are beginnings of that, whatever follows what was read and whatever the results
-- of the other games are; each text was said as far as the device took it. Of each game whose results were told all was said. Where a read
-- failed, no more is held back than `most_held`.
pub record FilledInPart (spent : Type 0) (wanted : Wanted) (shows : Bool) (read_old read_new write_old write_new : Option (List ℕ)) (errors_old errors_new : Sink)
    (fault : FileFault) : Type 0 where
  pub between : Sink
  pub filled : FilledBeginning (IsTold spent) (SaysNotice shows) wanted errors_old between read_old read_new write_old write_new fault
  pub cleared : SaysAll (clear_texts shows) between errors_new

-- All that; or a call failed, or memory ran out, and it was done in part. No call failed before the one that ended the run.
pub record Fills {R W : Type 0} (remaining : R → Option (List ℕ)) (contents : W → Option (List ℕ)) (spent : Type 0) (wanted : Wanted) (shows : Bool)
    (reader_old reader_new : CountedDevice R) (writer_old writer_new : CountedDevice W) (errors_old errors_new : Sink) (result : Result (Unit {0}) FileFault) : Type 0 where
  pub ok : OnOk result (FilledSaying spent wanted shows (bytes_of remaining reader_old) (bytes_of remaining reader_new)
      (bytes_of contents writer_old) (bytes_of contents writer_new) errors_old errors_new)
  pub err : IfErr result (FilledInPart spent wanted shows (bytes_of remaining reader_old) (bytes_of remaining reader_new)
      (bytes_of contents writer_old) (bytes_of contents writer_new) errors_old errors_new)
  pub first : StopsAtFirstFailure reader_old reader_new writer_old writer_new result
