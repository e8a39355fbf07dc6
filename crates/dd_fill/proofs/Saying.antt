-- What is said of a file, text by text.
use Rattle.std.proofs.Common.{◌≡◌, ◌∙◌, ℕ, Bool, false, inl, inr, refl, ap, subst, sym, List, [], ◌∷◌, ◌++◌, Option, Result, Ok, Err}
use Rattle.std.specs.Prelude.{IfErr, OnErr, OnOk}
use Rattle.std.specs.Io.KnownBytes.{Appends}
use Rattle.dd_lines.specs.CountedDevices.{bytes_of}
use Rattle.dd_lines.specs.declared.counted_device.CountedDevice.{CountedDevice}
use Rattle.dd_lines.specs.declared.engine.LineFault.{LineFault}
use Rattle.dd_lines.specs.Served.{StopsAtFailedWrite, WroteText}
use Rattle.dd_bounds.specs.Spent.{IsSpent}
use Rattle.dd_file.specs.declared.engine.FileFault.{FileFault}
use Rattle.dd_file.specs.declared.wanted.Wanted.{Wanted}
use Rattle.dd_file.specs.Notices.{Notice, Hears}
use Rattle.dd_file.specs.Served.{FilledBeginning, FilledTelling, FillsTelling, FillsBeginning, StopsAtFirstFailure}
use Rattle.dd_fill.specs.Ahead.{FillsSaying, SayingOf, SaysTold}
use Rattle.dd_fill.specs.Said.{Says, SaysAll, SaysNotice, Sink, clear_texts, progress_texts, sink_of}
use Rattle.dd_fill.specs.Served.{Fills}
use Rattle.dd_fill.specs.Told.{IsTold}

-- a text that was written as far as the device took it was said
pub says-text : {T : Type 0} (contents : T → Option (List ℕ)) (old new : CountedDevice T) (text : List ℕ) (result : Result (Unit {0}) LineFault)
    → OnOk result (Appends (bytes_of contents old) (bytes_of contents new) text) → OnErr result (WroteText (bytes_of contents old) (bytes_of contents new) text)
    → StopsAtFailedWrite old new result → Says text (sink_of contents old) (sink_of contents new)
says-text contents old new text (Ok done) all begun fault = inl (all, fault)
says-text contents old new text (Err failed) all begun fault = inr (begun, fault.1)

pub says-one : (text : List ℕ) (old new : Sink) → Says text old new → SaysAll (text ∷ []) old new
says-one text old new says = (new, says, refl)

pub says-append : (a b : List (List ℕ)) (old mid new : Sink) → SaysAll a old mid → SaysAll b mid new → SaysAll (a ++ b) old new
says-append [] b old mid new one other = subst (λ (s : Sink). SaysAll b s new) one other
says-append (text ∷ a) b old mid new (between, says, one) other = (between, says, says-append a b between mid new one other)

-- where nothing is shown in the last line
pub clear-none : (shows : Bool) (old : Sink) → shows ≡ false → SaysAll (clear_texts shows) old old
clear-none shows old hides = subst (λ (b : Bool). SaysAll (clear_texts b) old old) (sym hides) refl

pub progress-none : (shows : Bool) (games bytes : ℕ) (old : Sink) → shows ≡ false → SaysAll (progress_texts shows games bytes) old old
progress-none shows games bytes old hides = subst (λ (b : Bool). SaysAll (progress_texts b games bytes) old old) (sym hides) refl

-- what is known of who says it, by what is known of the device
pub record Said (notices : List Notice) (before after : SayingOf) : Type 0 where
  pub table : after.table ≡ before.table
  pub reference : after.reference ≡ before.reference
  pub shows : after.shows ≡ before.shows
  pub hears : Hears (SaysNotice before.shows) before.errors notices after.errors

pub said : (notices : List Notice) (before after : SayingOf) → Hears SaysTold before notices after → Said notices before after
said [] before after same =
    record { table = ap (λ (s : SayingOf). s.table) same; reference = ap (λ (s : SayingOf). s.reference) same; shows = ap (λ (s : SayingOf). s.shows) same; hears = ap (λ (s : SayingOf). s.errors) same }
said (notice ∷ notices) before after (between, step, hears) =
    let more = said notices between after hears in
    record {
      table = more.table ∙ step.table;
      reference = more.reference ∙ step.reference;
      shows = more.shows ∙ step.shows;
      hears = (between.errors, step.says, subst (λ (b : Bool). Hears (SaysNotice b) between.errors notices after.errors) step.shows more.hears);
    }

module _ (spent : Type 0) (wanted : Wanted) (before after : SayingOf) where
  pub filled-said : (r0 r1 w0 w1 : Option (List ℕ)) → FilledTelling (IsTold spent) SaysTold wanted before after r0 r1 w0 w1
      → FilledTelling (IsTold spent) (SaysNotice before.shows) wanted before.errors after.errors r0 r1 w0 w1
  filled-said r0 r1 w0 w1 all =
      record {
        input = all.input;
        answers = all.answers;
        consumed = all.consumed;
        ended = all.ended;
        answered = all.answered;
        written = all.written;
        told = (said _ before after all.told).hears;
      }

  pub begun-said : (r0 r1 w0 w1 : Option (List ℕ)) (fault : FileFault) → FilledBeginning (IsTold spent) SaysTold wanted before after r0 r1 w0 w1 fault
      → FilledBeginning (IsTold spent) (SaysNotice before.shows) wanted before.errors after.errors r0 r1 w0 w1 fault
  begun-said r0 r1 w0 w1 fault some =
      record {
        input = some.input;
        answers = some.answers;
        asked = some.asked;
        written = some.written;
        notices = some.notices;
        consumed = some.consumed;
        answered = some.answered;
        games = some.games;
        begun = some.begun;
        told = some.told;
        over = some.over;
        held = some.held;
        appended = some.appended;
        hears = (said _ before after some.hears).hears;
      }

-- whether the file was filled or not, the references stay
pub record Stays (before after : SayingOf) : Type 0 where
  pub table : after.table ≡ before.table
  pub reference : after.reference ≡ before.reference

stays : (notices : List Notice) (before after : SayingOf) → Hears SaysTold before notices after → Stays before after
stays notices before after hears = (let all = said notices before after hears in record { table = all.table; reference = all.reference })

pub ends-stays : {R W : Type 0} (remaining : R → Option (List ℕ)) (contents : W → Option (List ℕ)) (spent : Type 0) (wanted : Wanted) (before after : SayingOf)
    (reader reader2 : CountedDevice R) (writer writer2 : CountedDevice W) (result : Result (Unit {0}) FileFault)
    → OnOk result (FillsTelling remaining contents (IsTold spent) SaysTold wanted before after reader reader2 writer writer2)
    → IfErr result (FillsBeginning remaining contents (IsTold spent) SaysTold wanted before after reader reader2 writer writer2) → Stays before after
ends-stays remaining contents spent wanted before after reader reader2 writer writer2 (Ok done) all some = stays _ before after all.told
ends-stays remaining contents spent wanted before after reader reader2 writer writer2 (Err fault) all some = stays some.notices before after some.hears

-- and this was said
pub ends-told : {R W : Type 0} (remaining : R → Option (List ℕ)) (contents : W → Option (List ℕ)) (spent : Type 0) (wanted : Wanted) (before after : SayingOf)
    (reader reader2 : CountedDevice R) (writer writer2 : CountedDevice W) (result : Result (Unit {0}) FileFault)
    → OnOk result (FillsTelling remaining contents (IsTold spent) SaysTold wanted before after reader reader2 writer writer2)
    → IfErr result (FillsBeginning remaining contents (IsTold spent) SaysTold wanted before after reader reader2 writer writer2)
    → StopsAtFirstFailure reader reader2 writer writer2 result
    → FillsSaying remaining contents spent wanted before.shows reader reader2 writer writer2 before.errors after.errors result
ends-told remaining contents spent wanted before after reader reader2 writer writer2 (Ok done) all some first =
    record { ok = filled-said spent wanted before after _ _ _ _ all; err = tt; first = first }
ends-told remaining contents spent wanted before after reader reader2 writer writer2 (Err fault) all some first =
    record { ok = tt; err = begun-said spent wanted before after _ _ _ _ fault some; first = first }

-- and at the end no progress is shown
pub ends-said : {R W : Type 0} (remaining : R → Option (List ℕ)) (contents : W → Option (List ℕ)) (spent : Type 0) (wanted : Wanted) (shows : Bool) (before after last : Sink)
    (reader reader2 : CountedDevice R) (writer writer2 : CountedDevice W) (result : Result (Unit {0}) FileFault)
    → FillsSaying remaining contents spent wanted shows reader reader2 writer writer2 before after result → SaysAll (clear_texts shows) after last
    → Fills remaining contents spent wanted shows reader reader2 writer writer2 before last result
ends-said remaining contents spent wanted shows before after last reader reader2 writer writer2 (Ok done) fills cleared =
    record { ok = record { between = after; filled = fills.ok; cleared = cleared }; err = tt; first = fills.first }
ends-said remaining contents spent wanted shows before after last reader reader2 writer writer2 (Err fault) fills cleared =
    record { ok = tt; err = record { between = after; filled = fills.err; cleared = cleared }; first = fills.first }

-- so where the limit has the budget's number
pub ends-named : {R W : Type 0} (remaining : R → Option (List ℕ)) (contents : W → Option (List ℕ)) (budget named : Option ℕ) (wanted : Wanted) (shows : Bool) (before after last : Sink)
    (reader reader2 : CountedDevice R) (writer writer2 : CountedDevice W) (result : Result (Unit {0}) FileFault) → budget ≡ named
    → FillsSaying remaining contents (IsSpent named) wanted shows reader reader2 writer writer2 before after result → SaysAll (clear_texts shows) after last
    → Fills remaining contents (IsSpent budget) wanted shows reader reader2 writer writer2 before last result
ends-named remaining contents budget named wanted shows before after last reader reader2 writer writer2 result same fills cleared =
    ends-said remaining contents (IsSpent budget) wanted shows before after last reader reader2 writer writer2 result
    (subst (λ (n : Option ℕ). FillsSaying remaining contents (IsSpent n) wanted shows reader reader2 writer writer2 before after result) (sym same) fills) cleared
