-- To be believed: what is said on the standard error of a file, text by text.
use Rattle.std.specs.Prelude.{◌≡◌, ◌⊎◌, ℕ, zero, suc, Bool, true, false, List, [], ◌∷◌, ◌++◌, Option}
use Rattle.std.specs.Io.KnownBytes.{Appends}
use Rattle.dd_lines.specs.CountedDevices.{FailedOnce, bytes_of, failures_of}
use Rattle.dd_lines.specs.declared.counted_device.CountedDevice.{CountedDevice}
use Rattle.dd_lines.specs.Served.{WroteText}
use Rattle.dd_file.specs.Notices.{Notice, left_game, games_ended, games_in_all}
use Rattle.dd_fill.specs.Notes.{clear_text, no_game_text, note_text, progress_text}

-- ---- what becomes of a device

-- what is known of it: the bytes that it was given, and its failed calls
pub record Sink : Type 0 where
  pub bytes : Option (List ℕ)
  pub failures : ℕ

abbrev pub sink_of : {T : Type 0} → (T → Option (List ℕ)) → CountedDevice T → Sink
sink_of contents counted = record { bytes = bytes_of contents counted; failures = failures_of counted }

-- the text was written, and no call failed; or a beginning of it was, and then one did
abbrev pub Says : List ℕ → Sink → Sink → Type 0
Says text old new =
    (Appends old.bytes new.bytes text × (new.failures ≡ old.failures)) ⊎ (WroteText old.bytes new.bytes text × FailedOnce old.failures new.failures)

-- the same of texts, one after another, each whatever became of those before
abbrev pub SaysAll : List (List ℕ) → Sink → Sink → Type 0
SaysAll [] old new = new ≡ old
SaysAll (text ∷ texts) old new = (between : Sink) × Says text old between × SaysAll texts between new

-- ---- what is said

-- on a terminal the progress in the last line goes before a line is said, and at the end
abbrev pub clear_texts : Bool → List (List ℕ)
clear_texts false = []
clear_texts true = clear_text ∷ []

-- a terminal's last line shows the progress
abbrev pub progress_texts : Bool → ℕ → ℕ → List (List ℕ)
progress_texts false games bytes = []
progress_texts true games bytes = progress_text games bytes ∷ []

-- of a file without games a line is said
abbrev pub no_game_texts : Bool → ℕ → List (List ℕ)
no_game_texts shows zero = clear_texts shows ++ no_game_text ∷ []
no_game_texts shows (suc games) = []

-- what is said for what is told of a file
abbrev pub said_texts : Bool → Notice → List (List ℕ)
said_texts shows (left_game game board reason unknown) = clear_texts shows ++ note_text game board reason unknown ∷ []
said_texts shows (games_ended games bytes) = progress_texts shows games bytes
said_texts shows (games_in_all games) = no_game_texts shows games

-- it is said, which leads from what was known of the device to what is
abbrev pub SaysNotice : Bool → Sink → Notice → Sink → Type 0
SaysNotice shows old notice new = SaysAll (said_texts shows notice) old new
