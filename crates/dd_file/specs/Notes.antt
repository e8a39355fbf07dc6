-- What a filler has noted of the game at hand.
use Rattle.std.specs.Prelude.{◌≡◌, ℕ, ◌-◌, ◌<◌, false, List, ◌++◌, take, if◌then◌else◌}
use Rattle.dd_file.specs.declared.filler.Filler.{Filler}
use Rattle.dd_file.specs.declared.told_texts.TheConstants.{TOLD_BYTES}
use Rattle.dd_file.specs.declared.told_texts.UnknownTexts.{UnknownTexts}
use Rattle.dd_file.specs.Filled.{state_here}
use Rattle.dd_file.specs.Games.{ends}
use Rattle.dd_file.specs.Marked.{begins_within}
use Rattle.dd_file.specs.Marks.{Begins}
use Rattle.dd_file.specs.Told.{GameNotes, TextsOf, board_here, board_with, number_here, texts_here, texts_with}

-- the first bytes of what the tag Board of the game at hand says
abbrev pub board_of : Filler → List ℕ
board_of filler = take TOLD_BYTES filler.board.items

-- how many games there are so far, with the one at hand
abbrev pub games_of : Filler → ℕ
games_of filler = (if filler.state.begun then filler.number else filler.number - 1)

abbrev pub texts_of : UnknownTexts → TextsOf
texts_of texts = record { dealer = texts.dealer.items; vulnerable = texts.vulnerable.items }

-- what is told of the values of the game at hand that aren't known
abbrev pub unknown_of : Filler → TextsOf
unknown_of filler = texts_of filler.unknown

-- all that is noted
abbrev pub notes_of : Filler → GameNotes
notes_of filler = record { number = filler.number; board = board_of filler; texts = unknown_of filler; bytes = filler.passed }

-- what is noted behind a byte at which this begins
pub record Notes (old new : Filler) (mark : Begins) : Type 0 where
  pub number : new.number ≡ number_here (ends old.state mark) old.number
  pub board : board_of new ≡ board_with mark (board_here (ends old.state mark) (board_of old))
  pub texts : unknown_of new ≡ texts_with mark (state_here (ends old.state mark) old.state) (texts_here (ends old.state mark) (unknown_of old))

-- The same behind so many bytes, whatever follows: what begins at the first of them is noted, and nothing of the others.
abbrev pub NotesFirst : Filler → Filler → List ℕ → ℕ → Type 0
NotesFirst old new text count = 0 < count → (rest : List ℕ) → Notes old new (begins_within old.left old.mode (text ++ rest))

-- Where no game ends at the first of these bytes, whatever follows, the analyst is as it was: nothing was asked of it, and it was told nothing.
abbrev pub AsksAtEnd : {A : Type 0} → Filler → List ℕ → A → A → Type 0
AsksAtEnd filler text analyst_old analyst_new =
    (rest : List ℕ) → ends filler.state (begins_within filler.left filler.mode (text ++ rest)) ≡ false → analyst_new ≡ analyst_old
