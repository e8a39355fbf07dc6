-- To be believed: which games of a file lack a tag that is wanted, and of which it is told that they do.
use Rattle.std.specs.Prelude.{◌≡◌, ℕ, ◌&&◌, Bool, true, false, List, [], ◌∷◌, ◌++◌, Option, if◌then◌else◌}
use Rattle.dd_file.specs.declared.fill_state.FillState.{FillState}
use Rattle.dd_file.specs.declared.wanted.Wanted.{Wanted}
use Rattle.dd_file.specs.Again.{MayBeResults}
use Rattle.dd_file.specs.Filled.{Found, AreAnswers, asks, filled, needs, state_here}
use Rattle.dd_file.specs.Games.{ends, first_state, lacks, next_state}
use Rattle.dd_file.specs.Marked.{Marked, end, byte, marked_file}
use Rattle.dd_file.specs.Notices.{Notice, left_game, games_ended, games_in_all}
use Rattle.dd_file.specs.Told.{told_of_file}

-- does the game lack a tag that is wanted?
abbrev pub is_lacking : Wanted → FillState → Bool
is_lacking wanted state = needs (lacks wanted state) true

-- of a game that ends here, if one does
abbrev pub lacking_here : Bool → Bool → List Bool
lacking_here ends_here lacking = (if ends_here then lacking ∷ [] else [])

-- of each game that ends before the end of the file; and last whether there is one at hand at the end that does
unfoldable pub lacking_from : Wanted → FillState → Marked → List Bool
lacking_from wanted state (end closed) = (state.begun && is_lacking wanted state) ∷ []
lacking_from wanted state (byte mark b rest) =
    lacking_here (ends state mark) (is_lacking wanted state) ++ lacking_from wanted (next_state (state_here (ends state mark) state) mark b) rest

-- of the games of a file
abbrev pub lacking : Wanted → List ℕ → List Bool
lacking wanted file = lacking_from wanted first_state (marked_file file)

-- Of which games it is told why they lack a tag: of each that ends before the end of the file, and last of one at hand at the end. So much was told of the
-- game at hand already.
abbrev pub games_told : Bool → List Notice → List Bool
games_told told [] = []
games_told told (left_game number board reason text ∷ notices) = games_told true notices
games_told told (games_ended games bytes ∷ notices) = told ∷ games_told false notices
games_told told (games_in_all games ∷ notices) = told ∷ games_told false notices

-- Where no result is above 13, it is told game by game exactly of those which lack a tag in the filled file. Results may have been given up.
abbrev pub TellsWhatLacks : Type 0
TellsWhatLacks =
    (wanted : Wanted) (answers : List (Option Found)) (file : List ℕ) → AreAnswers MayBeResults (asks wanted file) answers
    → games_told false (told_of_file wanted answers file) ≡ lacking wanted (filled wanted answers file)
