-- To be believed: what the values of tags mean.
use Rattle.std.specs.Prelude.{ℕ, ◌==◌, ◌||◌, ◌&&◌, nat_lt, Bool, true, false, List, [], ◌∷◌, length, map, codes, Option, Some, None, Result, Ok, Err, if◌then◌else◌}
use Rattle.std.specs.Char.{to_ascii_lowercase}
use Rattle.std.specs.Str.{bytes_eq}
use mathlib.Core.Bool.{not}
use Rattle.dd_cards.specs.declared.seat.Seat.{Seat}
use Rattle.dd_cards.specs.declared.seat.Seat.TheVariants.{North, East, South, West}
use Rattle.dd_cards.specs.Hands.{FourHands}
use Rattle.dd_pbn.specs.declared.fault.PbnFault.{PbnFault}
use Rattle.dd_pbn.specs.declared.fault.PbnFault.TheVariants.{Grammar, Absent}
use Rattle.dd_pbn.specs.declared.fault.PbnFault.TheVariants as pbn
use Rattle.dd_pbn.specs.Reading.{outcome, value_of}
use Rattle.dd_score.specs.declared.vulnerable.Vulnerable.{Vulnerable}
use Rattle.dd_score.specs.declared.vulnerable.Vulnerable.TheVariants.{Neither, Both, NorthSouth, EastWest}
use Rattle.dd_file.specs.declared.analyst.DealFault.{DealFault}
use Rattle.dd_file.specs.declared.analyst.DealFault.TheVariants.{Text, LeftOut, Twice, Uneven, Empty, NotThirteen}
use Rattle.dd_file.specs.declared.kept.Told.{Told}
use Rattle.dd_file.specs.declared.kept.Told.TheVariants.{AsBefore, FromHere, Here}
use Rattle.dd_file.specs.declared.value.Unfit.{Unfit}
use Rattle.dd_file.specs.declared.value.Unfit.TheVariants.{NoDeal, Refused}
use Rattle.dd_file.specs.declared.value.TheConstants.{LONGEST_DEAL, THIRTEEN}
use Rattle.dd_file.specs.Marks.{after_blanks}

-- A string's text: a quote or a backslash behind a backslash stands for itself. Behind a backslash or not it goes on.
abbrev pub unescaped : Bool → List ℕ → List ℕ
unescaped false [] = []
unescaped true [] = 92 ∷ []
unescaped false (byte ∷ rest) = (if byte == 92 then unescaped true rest else byte ∷ unescaped false rest)
unescaped true (byte ∷ rest) = (if byte == 34 || byte == 92 then byte ∷ unescaped false rest else 92 ∷ byte ∷ unescaped false rest)

-- what stands behind a `#`
abbrev pub told_behind : List ℕ → Told
told_behind [] = AsBefore
told_behind (byte ∷ rest) = (if byte == 35 then FromHere else Here)

-- a value of `#` alone is that of the game before, and one behind `##` holds for later games too
abbrev pub told_in : List ℕ → Told
told_in [] = Here
told_in (byte ∷ rest) = (if byte == 35 then told_behind rest else Here)

-- a value without its first two bytes
abbrev pub behind_two : List ℕ → List ℕ
behind_two [] = []
behind_two (byte ∷ []) = byte ∷ []
behind_two (byte ∷ other ∷ rest) = rest

-- the value without the `##`
abbrev pub text_told : Told → List ℕ → List ℕ
text_told AsBefore value = value
text_told FromHere value = behind_two value
text_told Here value = value

-- the text is this word, letters in either case
abbrev pub is_word : List ℕ → List ℕ → Bool
is_word text word = bytes_eq (map to_ascii_lowercase text) (map to_ascii_lowercase word)

-- has each hand so many cards?
abbrev pub has_length : FourHands → ℕ → Bool
has_length hands cards = ((length hands.north == cards && length hands.east == cards) && length hands.south == cards) && length hands.west == cards

-- the fault of a text that spells no deal
abbrev pub fault_of : PbnFault → DealFault
fault_of Grammar = Text
fault_of Absent = LeftOut
fault_of pbn.Twice = Twice

-- the hands, where they are of thirteen cards
abbrev pub of_thirteen : FourHands → Result FourHands Unfit
of_thirteen hands =
    (if not (has_length hands (length hands.north)) then Err (Refused Uneven)
    else if length hands.north == THIRTEEN then Ok hands
    else if length hands.north == 0 then Err (Refused Empty) else Err (Refused NotThirteen))

-- the same of a game's deal, where it has one
abbrev pub thirteen_in : Result FourHands Unfit → Result FourHands Unfit
thirteen_in (Ok hands) = of_thirteen hands
thirteen_in (Err unfit) = Err unfit

-- what a text spells
abbrev pub deal_read : Result FourHands PbnFault → Result FourHands Unfit
deal_read (Ok hands) = Ok hands
deal_read (Err fault) = Err (Refused (fault_of fault))

-- does a colon come first?
abbrev pub begins_colon : List ℕ → Bool
begins_colon [] = false
begins_colon (byte ∷ text) = byte == 58

-- the letter with the rest, where that begins with a colon, and else the text
abbrev pub letter_closed : List ℕ → ℕ → List ℕ → List ℕ
letter_closed text letter rest = (if begins_colon rest then letter ∷ rest else text)

-- what follows its blanks is nothing, or a letter with a rest
abbrev pub closed_after : List ℕ → List ℕ → List ℕ
closed_after text [] = text
closed_after text (letter ∷ rest) = letter_closed text letter (after_blanks rest)

-- a text without blanks between its letter and the colon
unfoldable pub closed_up : List ℕ → List ℕ
closed_up text = closed_after text (after_blanks text)

-- The hands of a value. None is told by no text and by `?`. A value of over 1,024 bytes spells none. Blanks may stand before the colon.
unfoldable pub deal_value : List ℕ → Result FourHands Unfit
deal_value text =
    (if length text == 0 || bytes_eq text (63 ∷ []) then Err NoDeal
    else if nat_lt LONGEST_DEAL (length text) then Err (Refused Text) else deal_read (outcome (value_of (closed_up text))))

-- the seat of a letter, in either case
abbrev pub seat_of : ℕ → Option Seat
seat_of letter =
    (if letter == 78 || letter == 110 then Some North else if letter == 69 || letter == 101 then Some East
    else if letter == 83 || letter == 115 then Some South else if letter == 87 || letter == 119 then Some West else None)

-- the dealer is one letter
abbrev pub dealer_value : List ℕ → Option Seat
dealer_value [] = None
dealer_value (letter ∷ []) = seat_of letter
dealer_value (letter ∷ other ∷ rest) = None

-- the vulnerable sides by their words
unfoldable pub vulnerable_value : List ℕ → Option Vulnerable
vulnerable_value text =
    (if (is_word text (codes "none") || is_word text (codes "love")) || is_word text (codes "-") then Some Neither
    else if is_word text (codes "ns") then Some NorthSouth else if is_word text (codes "ew") then Some EastWest
    else if is_word text (codes "all") || is_word text (codes "both") then Some Both else None)
