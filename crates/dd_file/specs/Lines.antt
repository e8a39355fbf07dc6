-- To be believed: the lines that are added to a game.
use Rattle.std.specs.Prelude.{ℕ, ◌+◌, ◌-◌, ◌==◌, nat_lt, List, [], ◌∷◌, ◌++◌, length, codes, decimal, ℤ, pos, negsuc, suc, if◌then◌else◌}
use Rattle.std.specs.List.{flat_map}
use Rattle.dd_cards.specs.declared.seat.Seat.{Seat}
use Rattle.dd_cards.specs.declared.seat.Seat.TheVariants.{North, East, South, West}
use Rattle.dd_cards.specs.declared.side.Side.TheVariants.{NorthSouth, EastWest}
use Rattle.dd_cards.specs.declared.strain.Strain.{Strain}
use Rattle.dd_cards.specs.declared.strain.Strain.TheVariants.{Trump, Notrump}
use Rattle.dd_cards.specs.declared.suit.Suit.TheVariants.{Spades, Hearts, Diamonds, Clubs}
use Rattle.dd_score.specs.declared.par_contract.Declarers.{Declarers}
use Rattle.dd_score.specs.declared.par_contract.Declarers.TheVariants.{One, Both}
use Rattle.dd_score.specs.declared.par_contract.ParContract.{ParContract}
use Rattle.dd_score.specs.Tables.{tricks_of}
use Rattle.dd_file.specs.declared.line_text.LineEnds.{LineEnds}

-- ---- line ends

abbrev pub line_end : LineEnds → List ℕ
line_end ends = (if ends.has_return then 13 ∷ 10 ∷ [] else 10 ∷ [])

abbrev pub before_line : LineEnds → List ℕ
before_line ends = (if ends.leads then line_end ends else [])

abbrev pub after_line : LineEnds → List ℕ
after_line ends = (if ends.leads then [] else line_end ends)

-- a line with its line end, before it or behind it
unfoldable pub line_with : LineEnds → List ℕ → List ℕ
line_with ends line = before_line ends ++ line ++ after_line ends

-- ---- names

abbrev pub seat_letter : Seat → ℕ
seat_letter North = 78
seat_letter East = 69
seat_letter South = 83
seat_letter West = 87

abbrev pub denomination : Strain → List ℕ
denomination (Trump Spades) = codes "S"
denomination (Trump Hearts) = codes "H"
denomination (Trump Diamonds) = codes "D"
denomination (Trump Clubs) = codes "C"
denomination Notrump = codes "NT"

-- ---- DoubleDummyTricks

-- a hexadecimal digit
abbrev pub digit_of : ℕ → ℕ
digit_of tricks = (if nat_lt tricks 10 then 48 + tricks else 87 + tricks)

-- of a declarer: notrump, spades, hearts, diamonds, clubs
unfoldable pub digits_of : List (List ℕ) → Seat → List ℕ
digits_of table declarer =
    digit_of (tricks_of table Notrump declarer) ∷ digit_of (tricks_of table (Trump Spades) declarer) ∷ digit_of (tricks_of table (Trump Hearts) declarer)
    ∷ digit_of (tricks_of table (Trump Diamonds) declarer) ∷ digit_of (tricks_of table (Trump Clubs) declarer) ∷ []

-- declarers North, South, East, West
abbrev pub tricks_line : List (List ℕ) → List ℕ
tricks_line table =
    codes "[DoubleDummyTricks \"" ++ digits_of table North ++ digits_of table South ++ digits_of table East ++ digits_of table West ++ codes "\"]"

-- ---- OptimumScore

-- North and South's score, or what East and West score
unfoldable pub score_text : ℤ → List ℕ
score_text (pos score) = codes "NS " ++ decimal score
score_text (negsuc score) = codes "EW " ++ decimal (suc score)

abbrev pub score_line : ℤ → List ℕ
score_line score = codes "[OptimumScore \"" ++ score_text score ++ codes "\"]"

-- ---- ParContract

abbrev pub declarers_text : Declarers → List ℕ
declarers_text (One seat) = seat_letter seat ∷ []
declarers_text (Both NorthSouth) = codes "NS"
declarers_text (Both EastWest) = codes "EW"

-- `=` where it is just made, else the tricks over or under with their sign; doubled where it fails
abbrev pub outcome_text : ℕ → ℕ → List ℕ
outcome_text level tricks =
    (if tricks == level + 6 then codes "=" else if nat_lt (level + 6) tricks then codes "+" ++ decimal (tricks - (level + 6))
    else codes "X-" ++ decimal ((level + 6) - tricks))

unfoldable pub contract_text : ParContract → List ℕ
contract_text contract =
    declarers_text contract.declarers ++ codes " " ++ decimal contract.level ++ denomination contract.strain ++ outcome_text contract.level contract.tricks

-- with `; ` between each two
abbrev pub contracts_text : List ParContract → List ℕ
contracts_text [] = codes "Pass"
contracts_text (first ∷ rest) = contract_text first ++ flat_map (λ c. 59 ∷ 32 ∷ contract_text c) rest

abbrev pub contract_line : List ParContract → List ℕ
contract_line contracts = codes "[ParContract \"" ++ contracts_text contracts ++ codes "\"]"

-- ---- OptimumResultTable

abbrev pub table_header : List ℕ
table_header = codes "[OptimumResultTable \"Declarer;Denomination\\2R;Result\\2R\"]"

-- to the right in two columns
abbrev pub right_of : List ℕ → List ℕ
right_of text = (if nat_lt (length text) 2 then 32 ∷ text else text)

abbrev pub two_columns : ℕ → List ℕ
two_columns number = (if nat_lt number 10 then 32 ∷ (48 + number) ∷ [] else 49 ∷ (38 + number) ∷ [])

-- the declarer's letter, the strain and the tricks
unfoldable pub row_line : Seat → Strain → ℕ → List ℕ
row_line declarer strain tricks = seat_letter declarer ∷ 32 ∷ (right_of (denomination strain) ++ 32 ∷ two_columns tricks)

abbrev pub row_with : LineEnds → List (List ℕ) → Seat → Strain → List ℕ
row_with ends table declarer strain = line_with ends (row_line declarer strain (tricks_of table strain declarer))

unfoldable pub rows_of_seat : LineEnds → List (List ℕ) → Seat → List ℕ
rows_of_seat ends table declarer =
    row_with ends table declarer Notrump ++ row_with ends table declarer (Trump Spades) ++ row_with ends table declarer (Trump Hearts)
    ++ row_with ends table declarer (Trump Diamonds) ++ row_with ends table declarer (Trump Clubs)

-- the tag and twenty rows, in the order of the digits
abbrev pub table_text : LineEnds → List (List ℕ) → List ℕ
table_text ends table =
    line_with ends table_header ++ rows_of_seat ends table North ++ rows_of_seat ends table South ++ rows_of_seat ends table East ++ rows_of_seat ends table West
