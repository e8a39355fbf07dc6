-- What was passed on of a file, whatever follows.
use Rattle.std.specs.Prelude.{◌≡◌, ℕ, ◌+◌, ◌≤◌, Bool, true, false, List, [], ◌∷◌, ◌++◌, length, Option}
use Rattle.std.specs.Io.KnownBytes.{Appends}
use Rattle.dd_cards.specs.Hands.{FourHands}
use Rattle.dd_file.specs.declared.fill_state.FillState.{FillState}
use Rattle.dd_file.specs.declared.filler.Filler.{Filler}
use Rattle.dd_file.specs.declared.mode.Mode.{Mode}
use Rattle.dd_file.specs.declared.mode.Mode.TheVariants.{Head}
use Rattle.dd_file.specs.declared.wanted.Wanted.{Wanted}
use Rattle.dd_file.specs.Filled.{Ask, Found, AreAnswers, asks_from, filled_from}
use Rattle.dd_file.specs.Games.{first_state}
use Rattle.dd_file.specs.Marked.{Marked, marked}
use Rattle.dd_file.specs.Notes.{notes_of}
use Rattle.dd_file.specs.Notices.{Notice, Hears, games_in_all, games_over}
use Rattle.dd_file.specs.Served.{IsBeginning}
use Rattle.dd_file.specs.Told.{GameNotes, first_notes, told_from}

-- a place in a file: the game at hand, what is left of a tag, and how the next byte stands
pub record Point : Type 0 where
  pub state : FillState
  pub left : ℕ
  pub mode : Mode

abbrev pub point_of : Filler → Point
point_of filler = record { state = filler.state; left = filler.left; mode = filler.mode }

-- before the first byte
abbrev pub first_point : Point
first_point = record { state = first_state; left = 0; mode = Head }

-- the same with what is noted of the game at hand, and what is known of the analyst
pub record Place (S : Type 0) : Type 0 where
  pub point : Point
  pub notes : GameNotes
  pub heard : S

abbrev pub place_of : {S : Type 0} → Filler → S → Place S
place_of filler heard = record { point = point_of filler; notes = notes_of filler; heard = heard }

abbrev pub first_place : {S : Type 0} → S → Place S
first_place heard = record { point = first_point; notes = first_notes; heard = heard }

-- these bytes, to the end of the file, marked
abbrev pub marked_at : Point → List ℕ → Marked
marked_at point bytes = marked point.left point.mode bytes

-- what may follow: nothing, where all was read
abbrev pub Follows : Bool → List ℕ → Type 0
Follows true rest = rest ≡ []
Follows false rest = Unit {0}

-- From one place to another this text comes out, and the analyst hears this, whatever follows.
pub record Passed {S : Type 0} (gives : FourHands → Option (List (List ℕ)) → Type 0) (way : S → Notice → S → Type 0) (is_all : Bool) (wanted : Wanted) (p q : Place S)
    (before after text : List ℕ) : Type 0 where
  pub answers : List (Option Found)
  pub asked : List (Option Ask)
  pub notices : List Notice
  pub right : AreAnswers gives asked answers
  pub over : length answers ≤ games_over notices
  pub hears : Hears way p.heard notices q.heard
  pub fills : (more : List (Option Found)) (rest : List ℕ) → Follows is_all rest
      → filled_from wanted (answers ++ more) p.point.state (marked_at p.point (before ++ rest)) ≡ text ++ filled_from wanted more q.point.state (marked_at q.point (after ++ rest))
  pub asks : (rest : List ℕ) → Follows is_all rest
      → asks_from wanted p.point.state (marked_at p.point (before ++ rest)) ≡ asked ++ asks_from wanted q.point.state (marked_at q.point (after ++ rest))
  pub tells : (more : List (Option Found)) (rest : List ℕ) → Follows is_all rest
      → told_from wanted (answers ++ more) p.point.state p.notes (marked_at p.point (before ++ rest))
      ≡ notices ++ told_from wanted more q.point.state q.notes (marked_at q.point (after ++ rest))

-- these bytes come out so, where nothing follows, and the analyst hears all but how many games there are
pub record Ended {S : Type 0} (gives : FourHands → Option (List (List ℕ)) → Type 0) (way : S → Notice → S → Type 0) (wanted : Wanted) (p : Place S) (heard : S) (games : ℕ)
    (before text : List ℕ) : Type 0 where
  pub answers : List (Option Found)
  pub notices : List Notice
  pub right : AreAnswers gives (asks_from wanted p.point.state (marked_at p.point before)) answers
  pub over : length answers ≤ games_over notices + 1
  pub hears : Hears way p.heard notices heard
  pub fills : (more : List (Option Found)) → filled_from wanted (answers ++ more) p.point.state (marked_at p.point before) ≡ text
  pub tells : (more : List (Option Found)) → told_from wanted (answers ++ more) p.point.state p.notes (marked_at p.point before) ≡ notices ++ games_in_all games ∷ []

-- Behind a place, with these bytes next: this is a beginning of what comes out, and of what is told the analyst heard a beginning, whatever follows.
pub record Begun {S : Type 0} (gives : FourHands → Option (List (List ℕ)) → Type 0) (way : S → Notice → S → Type 0) (is_all : Bool) (wanted : Wanted) (p : Place S) (heard : S)
    (before written : List ℕ) : Type 0 where
  pub answers : List (Option Found)
  pub asked : List (Option Ask)
  pub notices : List Notice
  pub right : AreAnswers gives asked answers
  pub over : length answers ≤ games_over notices
  pub hears : Hears way p.heard notices heard
  pub fills : (more : List (Option Found)) (rest : List ℕ) → Follows is_all rest
      → IsBeginning written (filled_from wanted (answers ++ more) p.point.state (marked_at p.point (before ++ rest)))
  pub asks : (rest : List ℕ) → Follows is_all rest → IsBeginning asked (asks_from wanted p.point.state (marked_at p.point (before ++ rest)))
  pub tells : (more : List (Option Found)) (rest : List ℕ) → Follows is_all rest
      → IsBeginning notices (told_from wanted (answers ++ more) p.point.state p.notes (marked_at p.point (before ++ rest)))

-- the run stopped among these bytes, and what comes out for them is lost
abbrev pub Stops : {S : Type 0} → (FourHands → Option (List (List ℕ)) → Type 0) → (S → Notice → S → Type 0) → Bool → Filler → S → S → List ℕ → Type 0
Stops gives way is_all old s t before = Begun gives way is_all old.wanted (place_of old s) t before []

-- the text that comes out stands at the end
pub record PassesFront {S : Type 0} (gives : FourHands → Option (List (List ℕ)) → Type 0) (way : S → Notice → S → Type 0) (is_all : Bool) (old new : Filler) (s t : S)
    (before after out_old out_new : List ℕ) : Type 0 where
  pub wanted : new.wanted ≡ old.wanted
  pub text : List ℕ
  pub appended : out_new ≡ out_old ++ text
  pub passed : Passed gives way is_all old.wanted (place_of old s) (place_of new t) before after text

-- the text that comes out was written
pub record WritesFront {S : Type 0} (gives : FourHands → Option (List (List ℕ)) → Type 0) (way : S → Notice → S → Type 0) (old new : Filler) (s t : S) (before after : List ℕ)
    (write_old write_new : Option (List ℕ)) : Type 0 where
  pub wanted : new.wanted ≡ old.wanted
  pub text : List ℕ
  pub written : Appends write_old write_new text
  pub passed : Passed gives way false old.wanted (place_of old s) (place_of new t) before after text

-- all that comes out was written, and the analyst heard all
pub record WritesLast {S : Type 0} (gives : FourHands → Option (List (List ℕ)) → Type 0) (way : S → Notice → S → Type 0) (old : Filler) (s t : S) (before : List ℕ)
    (write_old write_new : Option (List ℕ)) : Type 0 where
  pub text : List ℕ
  pub games : ℕ
  pub heard : S
  pub written : Appends write_old write_new text
  pub ended : Ended gives way old.wanted (place_of old s) heard games before text
  pub counted : way heard (games_in_all games) t

-- a beginning of it was written
pub record WritesBegun {S : Type 0} (gives : FourHands → Option (List (List ℕ)) → Type 0) (way : S → Notice → S → Type 0) (is_all : Bool) (old : Filler) (s t : S) (before : List ℕ)
    (write_old write_new : Option (List ℕ)) : Type 0 where
  pub written : List ℕ
  pub appended : Appends write_old write_new written
  pub begun : Begun gives way is_all old.wanted (place_of old s) t before written

-- the analyst heard something, or nothing
pub record HearsSome {S : Type 0} (way : S → Notice → S → Type 0) (before after : S) : Type 0 where
  pub notices : List Notice
  pub hears : Hears way before notices after
