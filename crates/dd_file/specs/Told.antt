-- To be believed: of which games of a file it is told why they lack a line, and what.
use Rattle.std.specs.Prelude.{ℕ, ◌+◌, ◌-◌, ◌^◌, ◌==◌, ◌||◌, min, Bool, true, false, List, [], ◌∷◌, ◌++◌, length, take, Option, None, Some, is_some, Result, Ok, Err, if◌then◌else◌}
use Rattle.std.specs.Str.{bytes_eq}
use Rattle.dd_cards.specs.Hands.{FourHands}
use Rattle.dd_cards.specs.declared.seat.Seat.{Seat}
use Rattle.dd_score.specs.declared.vulnerable.Vulnerable.{Vulnerable}
use Rattle.dd_file.specs.declared.analyst.Reason.{Reason}
use Rattle.dd_file.specs.declared.analyst.Reason.TheVariants.{NoDeal, Refused, NoDealer, NoVulnerable, NotClosed, Spent}
use Rattle.dd_file.specs.declared.fill_state.FillState.{FillState}
use Rattle.dd_file.specs.declared.known_tag.TheConstants.{BOARD, DEALER, VULNERABLE}
use Rattle.dd_file.specs.declared.told_texts.TheConstants.{TOLD_BYTES}
use Rattle.dd_file.specs.declared.value.Unfit.{Unfit}
use Rattle.dd_file.specs.declared.value.Unfit.TheVariants as unfit
use Rattle.dd_file.specs.declared.wanted.Wanted.{Wanted}
use Rattle.dd_file.specs.Filled.{Found, answers_after, first_of, has_place, needs, state_here}
use Rattle.dd_file.specs.Games.{conditions_of, ends, first_state, lacks, next_state, told}
use Rattle.dd_file.specs.Kepts.{value_of}
use Rattle.dd_file.specs.KnownTags.{known_number}
use Rattle.dd_file.specs.Marked.{Marked, end, byte, marked_file}
use Rattle.dd_file.specs.Marks.{Begins, nothing, empty_line, tag, cut}
use Rattle.dd_file.specs.Notices.{Notice, left_game, games_ended, games_in_all}
use Rattle.dd_file.specs.Values.{thirteen_in, unescaped}

-- ---- what is noted of a game

-- what is told of Dealer and of Vulnerable; nothing of a value that is known
pub record TextsOf : Type 0 where
  pub dealer : List ℕ
  pub vulnerable : List ℕ

abbrev pub no_texts : TextsOf
no_texts = record { dealer = []; vulnerable = [] }

-- its number, the first bytes of what its tag Board says, what its Dealer and Vulnerable say where they aren't known, and how many bytes stand before
pub record GameNotes : Type 0 where
  pub number : ℕ
  pub board : List ℕ
  pub texts : TextsOf
  pub bytes : ℕ

-- before the first byte
abbrev pub first_notes : GameNotes
first_notes = record { number = 1; board = []; texts = no_texts; bytes = 0 }

-- a count goes up to the greatest number of 64 bits, and stays there
abbrev pub one_more : ℕ → ℕ
one_more count = min (count + 1) (2 ^ 64 - 1)

-- the number of the game at hand, where one ends here or none does
abbrev pub number_here : Bool → ℕ → ℕ
number_here ends_here number = (if ends_here then one_more number else number)

-- what its Board says: nothing yet, where one ends here
abbrev pub board_here : Bool → List ℕ → List ℕ
board_here ends_here board = (if ends_here then [] else board)

-- is it the number of the tag Board?
abbrev pub is_board : Option ℕ → Bool
is_board None = false
is_board (Some number) = number == BOARD

-- what the Board says behind a tag of this number and text
abbrev pub board_told : Option ℕ → List ℕ → List ℕ → List ℕ
board_told known text board = (if is_board known then take TOLD_BYTES text else board)

-- and behind what begins here
abbrev pub board_with : Begins → List ℕ → List ℕ
board_with nothing board = board
board_with empty_line board = board
board_with (tag is_first length name quoted) board = board_told (known_number name) (unescaped false quoted) board
board_with (cut length) board = board

-- where a game ends here nothing is told of the next one yet
abbrev pub texts_here : Bool → TextsOf → TextsOf
texts_here ends_here texts = (if ends_here then no_texts else texts)

-- is it the number of the tag Dealer?
abbrev pub is_dealer : Option ℕ → Bool
is_dealer None = false
is_dealer (Some number) = number == DEALER

-- is the value of a tag of this number known in this game, or does it not matter?
abbrev pub is_known : Option ℕ → FillState → Bool
is_known None state = true
is_known (Some number) state =
    (if number == DEALER then is_some (value_of state.dealer) else if number == VULNERABLE then is_some (value_of state.vulnerable) else true)

-- what is told of a text that tells no value: nothing where there is none, or `?`
abbrev pub unknown_text : List ℕ → List ℕ
unknown_text text = (if length text == 0 || bytes_eq text (63 ∷ []) then [] else take TOLD_BYTES text)

-- Dealer has this text, or else Vulnerable
abbrev pub with_text : Option ℕ → List ℕ → TextsOf → TextsOf
with_text known text texts = (if is_dealer known then record texts { dealer = unknown_text text } else record texts { vulnerable = unknown_text text })

-- what is told behind a tag of this number and text, where the game behind it is this one
abbrev pub texts_told : Option ℕ → List ℕ → FillState → TextsOf → TextsOf
texts_told known text state texts = (if is_known known state then texts else with_text known text texts)

-- and behind what begins here, in this game
abbrev pub texts_with : Begins → FillState → TextsOf → TextsOf
texts_with nothing state texts = texts
texts_with empty_line state texts = texts
texts_with (tag is_first length name quoted) state texts =
    texts_told (known_number name) (unescaped false quoted) (told (known_number name) (unescaped false quoted) state) texts
texts_with (cut length) state texts = texts

-- what is noted behind a byte at which this begins, where a game ends before it or none does
abbrev pub notes_behind : Bool → FillState → Begins → GameNotes → GameNotes
notes_behind ends_here state mark notes =
    record {
      number = number_here ends_here notes.number;
      board = board_with mark (board_here ends_here notes.board);
      texts = texts_with mark (state_here ends_here state) (texts_here ends_here notes.texts);
      bytes = one_more notes.bytes;
    }

abbrev pub next_notes : FillState → Begins → GameNotes → GameNotes
next_notes state mark notes = notes_behind (ends state mark) state mark notes

-- ---- why a game lacks a tag that is wanted

-- the reason, and the text of a value that isn't known
pub record Why : Type 0 where
  pub reason : Reason
  pub text : List ℕ

abbrev pub because : Reason → Option Why
because reason = Some (record { reason = reason; text = [] })

-- it has no deal of thirteen cards a hand
abbrev pub reason_of : Unfit → Reason
reason_of unfit.NoDeal = NoDeal
reason_of (unfit.Refused fault) = Refused fault

-- it isn't known who calls first, or else which sides are vulnerable
abbrev pub why_unknown : Option Seat → Option Vulnerable → TextsOf → Option Why
why_unknown None vulnerable texts = Some (record { reason = NoDealer; text = texts.dealer })
why_unknown (Some dealer) None texts = Some (record { reason = NoVulnerable; text = texts.vulnerable })
why_unknown (Some dealer) (Some sides) texts = None

-- so that it lacks a line of par
abbrev pub why_par : Wanted → FillState → TextsOf → Option Why
why_par lacking state texts = (if lacking.score || lacking.contract then why_unknown (value_of state.dealer) (value_of state.vulnerable) texts else None)

-- its results were given up, or they were told
abbrev pub why_answered : Option Found → Wanted → FillState → TextsOf → Option Why
why_answered None lacking state texts = because Spent
why_answered (Some found) lacking state texts = why_par lacking state texts

-- where it has this deal, or none
abbrev pub why_with : Result FourHands Unfit → Wanted → FillState → TextsOf → Option Found → Option Why
why_with (Err none) lacking state texts answer = because (reason_of none)
why_with (Ok deal) lacking state texts answer =
    (if needs lacking (is_some (conditions_of state)) then why_answered answer lacking state texts else why_par lacking state texts)

-- and lines can stand where it ends, or not
abbrev pub why_at : Bool → Wanted → FillState → TextsOf → Option Found → Option Why
why_at place lacking state texts answer = (if place then why_with (thirteen_in (value_of state.deal)) lacking state texts answer else because NotClosed)

-- why this game, which ends so, lacks a tag that is wanted, if it lacks one, by what was answered of it
abbrev pub why : Bool → Wanted → FillState → TextsOf → Option Found → Option Why
why place wanted state texts answer = (if needs (lacks wanted state) true then why_at place (lacks wanted state) state texts answer else None)

-- ---- what is told

-- why the game at hand lacks a tag, if it does
abbrev pub left_of_game : GameNotes → Option Why → List Notice
left_of_game notes None = []
left_of_game notes (Some why) = left_game notes.number notes.board why.reason why.text ∷ []

abbrev pub told_of : Bool → Wanted → FillState → GameNotes → Option Found → List Notice
told_of place wanted state notes answer = left_of_game notes (why place wanted state notes.texts answer)

-- where a game ends before the end of the file: that, and how far it is
abbrev pub told_here : Bool → Bool → Wanted → FillState → GameNotes → Option Found → List Notice
told_here ends_here place wanted state notes answer = (if ends_here then told_of place wanted state notes answer ++ games_ended notes.number notes.bytes ∷ [] else [])

-- of a game at hand at the end of the file, which is closed or not
abbrev pub told_last : Bool → Wanted → FillState → GameNotes → Option Found → List Notice
told_last closed wanted state notes answer = (if state.begun then told_of closed wanted state notes answer else [])

-- how many games there are, with the one at hand
abbrev pub games_in : FillState → GameNotes → ℕ
games_in state notes = (if state.begun then notes.number else notes.number - 1)

-- what is told of the games of these bytes, by an answer for each that ends, and in the end how many they are
unfoldable pub told_from : Wanted → List (Option Found) → FillState → GameNotes → Marked → List Notice
told_from wanted answers state notes (end closed) = told_last closed wanted state notes (first_of answers) ++ games_in_all (games_in state notes) ∷ []
told_from wanted answers state notes (byte mark b rest) =
    told_here (ends state mark) (has_place mark) wanted state notes (first_of answers)
    ++ told_from wanted (answers_after (ends state mark) answers) (next_state (state_here (ends state mark) state) mark b) (next_notes state mark notes) rest

-- what is told of a file
abbrev pub told_of_file : Wanted → List (Option Found) → List ℕ → List Notice
told_of_file wanted answers file = told_from wanted answers first_state first_notes (marked_file file)
