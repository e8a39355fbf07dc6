-- To be believed: which part of a job is claimed next.
use Rattle.std.specs.Prelude.{ℕ, zero, suc, ◌+◌, ◌*◌, ◌/◌, ◌&&◌, not, Bool, true, false, List, [], ◌∷◌, length, slice_get, Option, None, Some}
use Rattle.std.specs.Option.{is_some}
use Rattle.std.specs.List.{find, list_any, position, range_with_len, slice_range}
use Rattle.dd_request.specs.declared.asked.Asked.{Asked}
use Rattle.dd_request.specs.declared.asked.Asked.TheVariants.{Solve, Table, Target, Play}
use Rattle.dd_book.specs.declared.parts.Part.{Part}
use Rattle.dd_book.specs.Parts.{is_waiting, is_running}

-- the part at this place waits
abbrev pub waits_at : List Part → ℕ → Bool
waits_at parts place = elim (slice_get parts place) [ None ↦ false | Some part ↦ is_waiting part ]

-- the parts of the strain that this part of a table is of: a strain's four stand side by side
abbrev pub of_strain : List Part → ℕ → List Part
of_strain parts place = slice_range parts (4 * (place / 4)) (4 * (place / 4) + 4)

-- a part of a table waits, and no worker has one of its strain: whoever has one learns what the others need
abbrev pub is_free : List Part → ℕ → Bool
is_free parts place = waits_at parts place && not (list_any is_running (of_strain parts place))

-- this place, or where there is none the other
abbrev pub or_place : Option ℕ → Option ℕ → Option ℕ
or_place (Some place) other = Some place
or_place None other = other

-- the first part of a table that is free; where none is, the first that waits
abbrev pub next_of_table : List Part → Option ℕ
next_of_table parts =
    or_place (find (is_free parts) (range_with_len 0 (length parts))) (position is_waiting parts)

-- the places below this number, the last one first
unfoldable pub from_last : ℕ → List ℕ
from_last zero = []
from_last (suc n) = n ∷ from_last n

-- the last part of a play that waits: what a search learns of a position serves those before it
abbrev pub next_of_play : List Part → Option ℕ
next_of_play parts = find (waits_at parts) (from_last (length parts))

-- the part that is claimed next learns from none that a worker has: of a table one is free, of a play no part runs
abbrev pub starts_apart : Asked → List Part → Bool
starts_apart (Solve question) parts = true
starts_apart (Target question) parts = true
starts_apart (Table hands) parts =
    is_some (find (is_free parts) (range_with_len 0 (length parts)))
starts_apart (Play play) parts = not (list_any is_running parts)

-- the place of the part of a job that is claimed next
abbrev pub next_part : Asked → List Part → Option ℕ
next_part (Solve question) parts = position is_waiting parts
next_part (Target question) parts = position is_waiting parts
next_part (Table hands) parts = next_of_table parts
next_part (Play play) parts = next_of_play parts
