-- What is put in between the bytes of a file.
use Rattle.std.proofs.Common.{ℕ, Bool, true, false, List, [], ◌∷◌, refl, Option, None, Some}
use Rattle.dd_file.specs.declared.fill_state.FillState.{FillState}
use Rattle.dd_file.specs.declared.mode.Mode.{Mode}
use Rattle.dd_file.specs.declared.wanted.Wanted.{Wanted}
use Rattle.dd_file.specs.Filled.{Found, added_text, answers_after, ends_last, filled_from, state_here, text_here}
use Rattle.dd_file.specs.Games.{ends, lacks, line_ends, next_state}
use Rattle.dd_file.specs.Marked.{begins_within, is_closed, left_within, marked}
use Rattle.dd_file.specs.Modes.{next_mode}
use Rattle.dd_file.specs.Woven.{AreLines, HasLines}

-- no text is no lines
AreLines-none : AreLines []
unfolding added_text
AreLines-none =
    (record { has_return = false; leads = false }, record { tricks = false; score = false; contract = false; table = false }, record { table = []; par = None }, refl)

-- what a game gets are lines
AreLines-here : (here : Bool) (wanted : Wanted) (state : FillState) (answers : List (Option Found)) → AreLines (text_here here wanted state answers)
AreLines-here false wanted state answers = AreLines-none
AreLines-here true wanted state [] = AreLines-none
AreLines-here true wanted state (None ∷ answers) = AreLines-none
AreLines-here true wanted state ((Some found) ∷ answers) = (line_ends state, lacks wanted state, found, refl)

-- from any place on
pub HasLines-from : (wanted : Wanted) (answers : List (Option Found)) (state : FillState) (left : ℕ) (mode : Mode) (bytes : List ℕ)
    → HasLines bytes (filled_from wanted answers state (marked left mode bytes))
unfolding filled_from marked
HasLines-from wanted answers state left mode [] = AreLines-here (ends_last (is_closed left mode) state) wanted state answers
HasLines-from wanted answers state left mode (first ∷ bytes) =
    let mark = begins_within left mode (first ∷ bytes) in
    let here = ends state mark in
    let after = next_state (state_here here state) mark first in (
      text_here here wanted state answers,
      filled_from wanted (answers_after here answers) after (marked (left_within left mark) (next_mode mode first) bytes),
      AreLines-here here wanted state answers,
      HasLines-from wanted (answers_after here answers) after (left_within left mark) (next_mode mode first) bytes,
      refl,
    )
