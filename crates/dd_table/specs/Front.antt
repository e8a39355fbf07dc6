-- To be believed: what the front of a table keeps: exact values of positions at the start of a trick, one in a cell.
use Rattle.std.specs.Prelude.{◌≡◌, ℕ, ◌<◌, ◌⊎◌, List, slice_index_or, Option, None, Some}
use Rattle.dd_play.specs.Board.{Board, IsBoard}
use Rattle.dd_play.specs.Value.{leaders_tricks}
use Rattle.dd_rank.specs.Alike.{AreAlike}

-- a position at the start of a trick, and a number of tricks of its leader's side
pub record Exact : Type 0 where
  pub board : Board
  pub value : ℕ

-- the number is the value of each position that is alike to it
abbrev pub IsExact : Exact → Type 0
IsExact e = (q : Board) → IsBoard q → AreAlike e.board q → leaders_tricks q ≡ e.value

-- A get of p: nothing is answered, or the value that the cell holds, and it holds that of a position to which p is alike.
abbrev pub Gets : Board → Option ℕ → Option Exact → Type 0
Gets p None cell = Unit {0}
Gets p (Some value) cell = (e : Exact) × (cell ≡ Some e) × AreAlike e.board p × (value ≡ e.value)

-- A set: an empty cell holds the new value or stays empty; a full one stays.
abbrev pub Sets : Exact → Option Exact → Option Exact → Type 0
Sets e None new = (new ≡ Some e) ⊎ (new ≡ None)
Sets e (Some held) new = new ≡ Some held

-- a cell by its slot and its name, and what was seen in it
pub record Noted : Type 0 where
  pub slot : ℕ
  pub cell : ℕ
  pub known : Option Exact

-- The note is of this table's cell of its slot. A table is seen as the names of the cells of its front.
abbrev pub IsNoteOf : List ℕ → Noted → Type 0
IsNoteOf table note = (note.slot < 4096) × (note.cell ≡ slice_index_or table note.slot 0)
