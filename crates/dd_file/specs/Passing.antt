-- What passing a byte on does.
use Rattle.std.specs.Prelude.{◌≡◌, ◌⊎◌, ℕ, zero, suc, Bool, List, [], ◌∷◌, ◌++◌, Option, None, Some}
use Rattle.dd_cards.specs.Hands.{FourHands}
use Rattle.dd_score.specs.declared.par_of_results.ParResult.{ParResult}
use Rattle.dd_file.specs.declared.fill_state.Conditions.{Conditions}
use Rattle.dd_file.specs.declared.fill_state.FillState.{FillState}
use Rattle.dd_file.specs.declared.filler.Filler.{Filler}
use Rattle.dd_file.specs.declared.line_text.LineEnds.{LineEnds}
use Rattle.dd_file.specs.declared.mode.Mode.{Mode}
use Rattle.dd_file.specs.declared.wanted.Wanted.{Wanted}
use Rattle.dd_file.specs.Filled.{Ask, Found, ParFound, AreAnswers, IsAnswer, IsParFound, added_text, ask_at, ask_of, asked_here, ends_last, first_of, has_place, state_here, text_here, text_of}
use Rattle.dd_file.specs.Games.{ends, next_state}
use Rattle.dd_file.specs.Marked.{left_within}
use Rattle.dd_file.specs.Marks.{Begins, nothing, mark_at}
use Rattle.dd_file.specs.Modes.{next_mode}
use Rattle.dd_file.specs.Notes.{notes_of}
use Rattle.dd_file.specs.Notices.{Notice, Hears}
use Rattle.dd_file.specs.Told.{GameNotes, Why, left_of_game, told_here, told_last}

-- what begins at the next byte, of which so many with those after it still belong to a tag
abbrev pub begins_now : ℕ → Mode → Bool → List ℕ → Begins
begins_now zero mode is_all near = mark_at mode is_all near
begins_now (suc more) mode is_all near = nothing

-- par as it is found
abbrev pub par_found : Option ParResult → Option ParFound
par_found None = None
par_found (Some par) = Some (record { score = par.score; contracts = par.contracts.items })

-- the lines for these results stand at the end
pub record AddsFound (ends : LineEnds) (lacking : Wanted) (table : List (List ℕ)) (conditions : Option Conditions) (out_old out_new : List ℕ) : Type 0 where
  pub par : Option ParFound
  pub right : IsParFound table conditions par
  pub text : out_new ≡ out_old ++ added_text ends lacking (record { table = table; par = par })

-- the lines for an answer stand at the end, and the analyst heard why lines lack by that
pub record AddsAnswer {S : Type 0} (gives : FourHands → Option (List (List ℕ)) → Type 0) (way : S → Notice → S → Type 0) (ask : Option Ask) (reason : Option Found → Option Why)
    (wanted : Wanted) (state : FillState) (notes : GameNotes) (s t : S) (out_old out_new : List ℕ) : Type 0 where
  pub answer : Option Found
  pub hears : Hears way s (left_of_game notes (reason answer)) t
  pub right : IsAnswer gives ask answer
  pub text : out_new ≡ out_old ++ text_of wanted state answer

-- the mode, what is left of a tag, and what is wanted are as they were
pub record KeepsPlace (old new : Filler) : Type 0 where
  pub mode : new.mode ≡ old.mode
  pub left : new.left ≡ old.left
  pub wanted : new.wanted ≡ old.wanted

-- a game that ends before what begins here has ended
pub record EndsBefore {S : Type 0} (gives : FourHands → Option (List (List ℕ)) → Type 0) (way : S → Notice → S → Type 0) (old new : Filler) (s t : S) (mark : Begins) (out_old out_new : List ℕ) : Type 0 where
  pub place : KeepsPlace old new
  pub answers : List (Option Found)
  pub right : AreAnswers gives (asked_here (ends old.state mark) (ask_at (has_place mark) old.wanted old.state)) answers
  pub hears : Hears way s (told_here (ends old.state mark) (has_place mark) old.wanted old.state (notes_of old) (first_of answers)) t
  pub text : out_new ≡ out_old ++ text_here (ends old.state mark) old.wanted old.state answers
  pub state : new.state ≡ state_here (ends old.state mark) old.state

-- a game has ended, at a place for lines or at none, or it goes on
pub record EndsHere {S : Type 0} (gives : FourHands → Option (List (List ℕ)) → Type 0) (way : S → Notice → S → Type 0) (old new : Filler) (s t : S) (here at_place : Bool) (out_old out_new : List ℕ) : Type 0 where
  pub place : KeepsPlace old new
  pub answers : List (Option Found)
  pub right : AreAnswers gives (asked_here here (ask_at at_place old.wanted old.state)) answers
  pub hears : Hears way s (told_here here at_place old.wanted old.state (notes_of old) (first_of answers)) t
  pub text : out_new ≡ out_old ++ text_here here old.wanted old.state answers
  pub state : new.state ≡ state_here here old.state

-- the byte was passed on, with the lines of a game that ends before it
pub record PassesByte {S : Type 0} (gives : FourHands → Option (List (List ℕ)) → Type 0) (way : S → Notice → S → Type 0) (old new : Filler) (s t : S) (mark : Begins) (b : ℕ) (out_old out_new : List ℕ) : Type 0 where
  pub mode : new.mode ≡ next_mode old.mode b
  pub left : new.left ≡ left_within old.left mark
  pub wanted : new.wanted ≡ old.wanted
  pub answers : List (Option Found)
  pub right : AreAnswers gives (asked_here (ends old.state mark) (ask_at (has_place mark) old.wanted old.state)) answers
  pub hears : Hears way s (told_here (ends old.state mark) (has_place mark) old.wanted old.state (notes_of old) (first_of answers)) t
  pub text : out_new ≡ (out_old ++ text_here (ends old.state mark) old.wanted old.state answers) ++ b ∷ []
  pub state : new.state ≡ next_state (state_here (ends old.state mark) old.state) mark b

-- the analyst heard all of the game that ends before what begins here, by an answer, if one ends
pub record TellsHere {S : Type 0} (gives : FourHands → Option (List (List ℕ)) → Type 0) (way : S → Notice → S → Type 0) (old : Filler) (s t : S) (mark : Begins) : Type 0 where
  pub answers : List (Option Found)
  pub right : AreAnswers gives (asked_here (ends old.state mark) (ask_at (has_place mark) old.wanted old.state)) answers
  pub hears : Hears way s (told_here (ends old.state mark) (has_place mark) old.wanted old.state (notes_of old) (first_of answers)) t

-- or it heard nothing
abbrev pub StopsAt : {S : Type 0} → (FourHands → Option (List (List ℕ)) → Type 0) → (S → Notice → S → Type 0) → Filler → S → S → Begins → Type 0
StopsAt gives way old s t mark = (t ≡ s) ⊎ TellsHere gives way old s t mark

-- the game that the end of the file ends has its lines
pub record AddsLast {S : Type 0} (gives : FourHands → Option (List (List ℕ)) → Type 0) (way : S → Notice → S → Type 0) (closed : Bool) (filler : Filler) (s t : S) (out_old out_new : List ℕ) : Type 0 where
  pub answers : List (Option Found)
  pub hears : Hears way s (told_last closed filler.wanted filler.state (notes_of filler) (first_of answers)) t
  pub right : AreAnswers gives (asked_here (ends_last closed filler.state) (ask_of filler.wanted filler.state)) answers
  pub text : out_new ≡ out_old ++ text_here (ends_last closed filler.state) filler.wanted filler.state answers

-- what is known of who tells an analyst of deals ahead: the name of the reference to the analyst, and what is known of that
pub record ForeseerOf (S : Type 0) : Type 0 where
  pub reference : ℕ
  pub heard : S
