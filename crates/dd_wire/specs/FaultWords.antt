-- To be believed: what is said of a fault beside its number.
use Rattle.std.specs.Prelude.{ℕ, ◌||◌, ◌==◌, Bool, List, [], ◌∷◌, ◌++◌, take, codes, decimal, Option, None, Some, if◌then◌else◌}
use Rattle.std.specs.List.{list_all}
use Rattle.std.specs.Str.{bytes_eq}
use Rattle.dd_wire.specs.declared.fault.Fault.{Fault}
use Rattle.dd_wire.specs.declared.fault.Fault.TheVariants.{LineTooLong, NotAnObject, WrongField, DealText, HandLeftOut, CardTwice, WrongTrump, WrongFirst, WrongPlayed, WrongSolutions, WrongTarget, WrongOrder, WrongVulnerable, WrongResult, UnevenHands, NoCard, NotThirteen, AfterLast, NotInHand, Revoke, OutOfMemory}
use Rattle.dd_wire.specs.Faults.{fault_number}
use Rattle.dd_wire.specs.Ids.{quoted}

-- the words of each fault
unfoldable pub words_of : Fault → List ℕ
words_of LineTooLong = codes "the line is over 4096 bytes"
words_of NotAnObject = codes "the line is no JSON object"
words_of WrongField = codes "a field is missing, unknown or of the wrong kind"
words_of DealText = codes "the text of the deal has not the form of a deal"
words_of HandLeftOut = codes "a hand of the deal is left out"
words_of CardTwice = codes "a card stands twice"
words_of UnevenHands = codes "the hands have not equally many cards, or one fewer where they have played to the trick"
words_of NoCard = codes "there is no card to play"
words_of WrongTrump = codes "trump is not 0 to 4"
words_of WrongFirst = codes "first is not 0 to 3"
words_of WrongPlayed = codes "there are too many cards, or one of them is no card"
words_of WrongSolutions = codes "solutions is not 1 to 3, or not 1 or 2 beside a target"
words_of WrongTarget = codes "target is over 13"
words_of WrongOrder = codes "dealer is not 0 to 3, or side not 0 or 1"
words_of WrongVulnerable = codes "vulnerable is not 0 to 3"
words_of WrongResult = codes "a result is over 13"
words_of NotThirteen = codes "the hands are not of thirteen cards"
words_of AfterLast = codes "a card comes after the last"
words_of NotInHand = codes "a card is not in the hand that is to play it"
words_of Revoke = codes "a card is not of the suit led, which the hand has"
words_of OutOfMemory = codes "memory ran out, and nothing was changed"

-- ---- a line that is no object

-- a blank, a tab or a carriage return
abbrev pub is_blank : ℕ → Bool
is_blank byte = byte == 32 || (byte == 9 || byte == 13)

-- nothing else stands in the line
abbrev pub is_blank_line : List ℕ → Bool
is_blank_line line = list_all is_blank line

-- the line begins with a byte-order mark of UTF-8
abbrev pub has_mark : List ℕ → Bool
has_mark line = bytes_eq (239 ∷ 187 ∷ 191 ∷ []) (take 3 line)

-- the words of such a line
unfoldable pub words_of_line : List ℕ → List ℕ
words_of_line line =
    if is_blank_line line then codes "the line is blank"
    else (if has_mark line then codes "the line begins with a byte-order mark, which is to be left out" else words_of NotAnObject)

-- ---- the reply

-- ,"field":"f" where there is a field
abbrev pub field_member : Option (List ℕ) → List ℕ
field_member None = []
field_member (Some field) = codes ",\"field\":" ++ quoted field

-- {"fault":n,"field":"f","text":"t"}
abbrev pub explained_text : ℕ → Option (List ℕ) → List ℕ → List ℕ
explained_text number field words = codes "{\"fault\":" ++ decimal number ++ field_member field ++ codes ",\"text\":" ++ quoted words ++ codes "}"

-- that of a fault of a line, with its own words
abbrev pub fault_told : Fault → Option (List ℕ) → List ℕ
fault_told fault field = explained_text (fault_number fault) field (words_of fault)
