-- To be believed: what an analyst is told of the games of a file.
use Rattle.std.specs.Prelude.{◌≡◌, ℕ, ◌+◌, List, [], ◌∷◌}
use Rattle.dd_file.specs.declared.analyst.Reason.{Reason}

-- Why the game of this number, with this text of its tag Board, lacks a tag, with what its tag Dealer or Vulnerable says where that isn't known; how
-- many games have ended, and how many bytes stand before that place; and how many games there are.
pub data Notice : Type 0 where
  left_game : ℕ → List ℕ → Reason → List ℕ → Notice
  games_ended : ℕ → ℕ → Notice
  games_in_all : ℕ → Notice

-- these are told one after another, each by a step from state to state
abbrev pub Hears : {S : Type 0} → (S → Notice → S → Type 0) → S → List Notice → S → Type 0
Hears way before [] after = after ≡ before
Hears {S} way before (notice ∷ notices) after = (between : S) × way before notice between × Hears way between notices after

-- Of how many games it was told that they are over: how far it is where one ends before the end of the file, and in the end how many there are. What is
-- told of a game comes before that.
abbrev pub games_over : List Notice → ℕ
games_over [] = 0
games_over (left_game number board reason text ∷ notices) = games_over notices
games_over (games_ended games bytes ∷ notices) = games_over notices + 1
games_over (games_in_all games ∷ notices) = games_over notices + 1
