-- What is noted of a game behind a tag on one line.
use Rattle.std.proofs.Common.{◌≡◌, ◌∙◌, ℕ, ◌-◌, ◌≤◌, Bool, false, List, ◌++◌, length, refl, sym, ap, subst, Option}
use Rattle.std.specs.Prelude.{◌&&◌}
use Rattle.dd_file.specs.declared.fill_state.FillState.{FillState}
use Rattle.dd_file.specs.declared.filler.Filler.{Filler}
use Rattle.dd_file.specs.declared.mark.TheConstants.{NEAR}
use Rattle.dd_file.specs.Filled.{state_here}
use Rattle.dd_file.specs.Games.{ends, has_name, told}
use Rattle.dd_file.specs.KnownTags.{known_number}
use Rattle.dd_file.specs.Marked.{begins_within}
use Rattle.dd_file.specs.Marks.{Begins, tag}
use Rattle.dd_file.specs.Notes.{AsksAtEnd, Notes, NotesFirst, board_of, unknown_of}
use Rattle.dd_file.specs.Quiet.{BeginsShort, IsPlace, required_number}
use Rattle.dd_file.specs.Told.{TextsOf, board_here, board_told, number_here, texts_here, texts_told}
use Rattle.dd_file.specs.Values.{unescaped}
use Rattle.dd_file.proofs.Calm.{calm-unescaped}
use Rattle.dd_file.proofs.ShortTags.{short-begins, short-ends}

-- a tag's game ends as by its number
tag-ends : (old : Filler) (mark : Begins) (is_first here : Bool) (name quoted : List ℕ) (count : ℕ) (number : Option ℕ) → mark ≡ tag is_first count name quoted → number ≡ known_number name
    → here ≡ (old.state.begun && has_name (required_number number) old.state.names) → here ≡ ends old.state mark
tag-ends old mark is_first here name quoted count number is known ends_here =
    ends_here ∙ short-ends number name old.state known ∙ ap (ends old.state) (sym is)

-- what is told of values that aren't known behind a tag, by the number of its name, its text as it is meant, and the game before it
told-texts : (number known : Option ℕ) (quoted text : List ℕ) (state before : FillState) (texts ended : TextsOf) → number ≡ known → quoted ≡ text → state ≡ before → texts ≡ ended
    → texts_told number quoted (told number quoted state) texts ≡ texts_told known text (told known text before) ended
told-texts number known quoted text state before texts ended known_is text_is state_is texts_is =
    ap (λ (n : Option ℕ). texts_told n quoted (told n quoted state) texts) known_is
    ∙ ap (λ (l : List ℕ). texts_told known l (told known l state) texts) text_is
    ∙ ap (λ (s : FillState). texts_told known text (told known text s) texts) state_is
    ∙ ap (λ (t : TextsOf). texts_told known text (told known text before) t) texts_is

-- what is noted of it before the tag and behind it: the Board, the game with its end, and what is told of values that aren't known
pub record Noted (old new : Filler) (here : Bool) (number : Option ℕ) (quoted : List ℕ) : Type 0 where
  pub counted : new.number ≡ number_here here old.number
  pub ended : List ℕ
  pub ended_is : ended ≡ board_here here (board_of old)
  pub board : board_of new ≡ board_told number quoted ended
  pub state : FillState
  pub state_is : state ≡ state_here here old.state
  pub texts : TextsOf
  pub texts_is : texts ≡ texts_here here (unknown_of old)
  pub unknown : unknown_of new ≡ texts_told number quoted (told number quoted state) texts

Notes-tag : (old new : Filler) (is_first here : Bool) (name quoted : List ℕ) (count : ℕ) (number : Option ℕ) → number ≡ known_number name → quoted ≡ unescaped false quoted
    → here ≡ ends old.state (tag is_first count name quoted) → Noted old new here number quoted → Notes old new (tag is_first count name quoted)
Notes-tag old new is_first here name quoted count number known plain ends_here noted =
    record {
      number = noted.counted ∙ ap (λ (h : Bool). number_here h old.number) ends_here;
      board = noted.board ∙ ap (board_told number quoted) (noted.ended_is ∙ ap (λ (h : Bool). board_here h (board_of old)) ends_here)
          ∙ ap (λ (k : Option ℕ). board_told k quoted (board_here (ends old.state (tag is_first count name quoted)) (board_of old))) known
          ∙ ap (λ (l : List ℕ). board_told (known_number name) l (board_here (ends old.state (tag is_first count name quoted)) (board_of old))) plain;
      texts = noted.unknown ∙ told-texts number (known_number name) quoted (unescaped false quoted) noted.state _ noted.texts _ known plain
          (noted.state_is ∙ ap (λ (h : Bool). state_here h old.state) ends_here) (noted.texts_is ∙ ap (λ (h : Bool). texts_here h (unknown_of old)) ends_here);
    }

module _ (old : Filler) (is_first here : Bool) (text name quoted rest : List ℕ) (count : ℕ) (number : Option ℕ) (outside : old.left ≡ 0) (place : IsPlace old.mode is_first) (short : BeginsShort text name quoted rest)
    (counted : count ≡ length text - length rest) (few : count ≤ NEAR) (known : number ≡ known_number name) (ends_here : here ≡ (old.state.begun && has_name (required_number number) old.state.names)) where
  begins : (more : List ℕ) → begins_within old.left old.mode (text ++ more) ≡ tag is_first count name quoted
  begins = short-begins old.left old.mode is_first text name quoted rest count outside place short counted few

  pub Notes-short : (new : Filler) → Noted old new here number quoted → Notes old new (tag is_first count name quoted)
  Notes-short new noted =
      Notes-tag old new is_first here name quoted count number known (calm-unescaped quoted short.calm) (tag-ends old (tag is_first count name quoted) is_first here name quoted count number refl known ends_here)
      noted

  pub NotesFirst-tag : (new : Filler) (taken : ℕ) → Noted old new here number quoted → NotesFirst old new text taken
  NotesFirst-tag new taken noted some more = subst (Notes old new) (sym (begins more)) (Notes-short new noted)

  pub AsksAtEnd-tag : {A : Type 0} (analyst_old analyst_new : A) → (here ≡ false → analyst_new ≡ analyst_old) → AsksAtEnd old text analyst_old analyst_new
  AsksAtEnd-tag analyst_old analyst_new silent more none =
      silent (tag-ends old (begins_within old.left old.mode (text ++ more)) is_first here name quoted count number (begins more) known ends_here ∙ none)
