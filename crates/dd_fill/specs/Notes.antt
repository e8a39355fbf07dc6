-- To be believed: what is said of a game that lacks a tag which was asked for, and of a file without games.
use Rattle.std.specs.Prelude.{ℕ, ◌==◌, ◌||◌, nat_lt, List, [], ◌∷◌, ◌++◌, map, take, codes, decimal, if◌then◌else◌}
use Rattle.dd_file.specs.declared.analyst.DealFault.{DealFault}
use Rattle.dd_file.specs.declared.analyst.DealFault.TheVariants.{Text, LeftOut, Twice, Uneven, Empty, NotThirteen}
use Rattle.dd_file.specs.declared.analyst.Reason.{Reason}
use Rattle.dd_file.specs.declared.analyst.Reason.TheVariants.{NoDeal, Refused, NoDealer, NoVulnerable, NotClosed, Spent}

-- the fault of a deal, by the number that it has in replies, with the words that explained replies have beside it
abbrev pub fault_text : DealFault → List ℕ
fault_text Text = codes "deal refused, fault 4: the text of the deal has not the form of a deal"
fault_text LeftOut = codes "deal refused, fault 5: a hand of the deal is left out"
fault_text Twice = codes "deal refused, fault 6: a card stands twice"
fault_text Uneven = codes "deal refused, fault 7: the hands have not equally many cards, or one fewer where they have played to the trick"
fault_text Empty = codes "deal refused, fault 8: there is no card to play"
fault_text NotThirteen = codes "deal refused, fault 23: the hands are not of thirteen cards"

abbrev pub reason_text : Reason → List ℕ
reason_text NoDeal = codes "no deal"
reason_text (Refused fault) = fault_text fault
reason_text NoDealer = codes "no par: Dealer is missing"
reason_text NoVulnerable = codes "no par: Vulnerable is missing"
reason_text NotClosed = codes "not closed"
reason_text Spent = codes "spent"

-- a byte as it is said: a control byte as a question mark
abbrev pub said_byte : ℕ → ℕ
said_byte byte = (if nat_lt byte 32 || byte == 127 then 63 else byte)

-- the first 32 bytes of the value of the tag Board; a question mark where it has none
abbrev pub board_text : List ℕ → List ℕ
board_text [] = codes "?"
board_text (byte ∷ bytes) = map said_byte (take 32 (byte ∷ bytes))

-- the first 32 bytes of the value of a tag Dealer or Vulnerable that isn't known; nothing where there is none
abbrev pub unknown_text : List ℕ → List ℕ
unknown_text [] = []
unknown_text (byte ∷ bytes) = codes " or unknown: " ++ map said_byte (take 32 (byte ∷ bytes))

-- the line, with its line feed
abbrev pub note_text : ℕ → List ℕ → Reason → List ℕ → List ℕ
note_text game board reason unknown =
    codes "ddserve: game " ++ decimal game ++ codes " (board " ++ board_text board ++ codes "): " ++ reason_text reason ++ unknown_text unknown ++ codes "\n"

-- what is said of a file without games
abbrev pub no_game_text : List ℕ
no_game_text = codes "ddserve: no game was found: the input has no tag of PBN\n"

-- to the beginning of a terminal's last line, and nothing on it
abbrev pub clear_text : List ℕ
clear_text = 13 ∷ 27 ∷ codes "[K"

-- what that line shows in place of what it had: how many games have ended, and at which byte of the file
abbrev pub progress_text : ℕ → ℕ → List ℕ
progress_text games bytes = clear_text ++ codes "ddserve: " ++ decimal games ++ codes " games, " ++ decimal bytes ++ codes " bytes"
