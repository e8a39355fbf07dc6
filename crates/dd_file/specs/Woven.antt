-- To be believed: a file with lines put in between its bytes.
use Rattle.std.specs.Prelude.{◌≡◌, ℕ, List, [], ◌∷◌, ◌++◌, Option}
use Rattle.dd_file.specs.declared.line_text.LineEnds.{LineEnds}
use Rattle.dd_file.specs.declared.wanted.Wanted.{Wanted}
use Rattle.dd_file.specs.Filled.{Found, added_text, filled}

-- The text is lines that a game may get, or none.
abbrev pub AreLines : List ℕ → Type 0
AreLines text = (ends : LineEnds) × (lacking : Wanted) × (found : Found) × (text ≡ added_text ends lacking found)

-- These bytes are the file's, in their order, with such lines before some of them and at the end: taken out they leave the file.
abbrev pub HasLines : List ℕ → List ℕ → Type 0
HasLines [] bytes = AreLines bytes
HasLines (first ∷ file) bytes = (text : List ℕ) × (rest : List ℕ) × AreLines text × HasLines file rest × (bytes ≡ text ++ first ∷ rest)

-- whatever is wanted and answered, a filled file is the file with lines put in
abbrev pub KeepsTheFile : Type 0
KeepsTheFile = (wanted : Wanted) (answers : List (Option Found)) (file : List ℕ) → HasLines file (filled wanted answers file)
