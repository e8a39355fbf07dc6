-- The table of points, and its rows for given results.
use Rattle.std.specs.Prelude.{ℕ, ◌+◌, nat_le, Bool, if◌then◌else◌, List, [], ◌∷◌, ℤ, slice_index_or}
use Rattle.dd_cards.specs.declared.seat.Seat.{Seat}
use Rattle.dd_cards.specs.declared.seat.Seat.TheVariants.{North, East, South, West}
use Rattle.dd_cards.specs.declared.suit.Suit.TheVariants.{Spades, Hearts, Diamonds, Clubs}
use Rattle.dd_cards.specs.declared.strain.Strain.{Strain}
use Rattle.dd_cards.specs.declared.strain.Strain.TheVariants.{Trump, Notrump}
use Rattle.dd_cards.specs.Sides.{side_of}
use Rattle.dd_score.specs.declared.doubling.Doubling.{Doubling}
use Rattle.dd_score.specs.declared.doubling.Doubling.TheVariants.{Undoubled, Doubled}
use Rattle.dd_score.specs.declared.point_table.TheConstants.{POINTS}
use Rattle.dd_score.specs.declared.vulnerable.Vulnerable.{Vulnerable}
use Rattle.dd_score.specs.Tables.{tricks_of}
use Rattle.dd_score.specs.Vulnerability.{is_vulnerable}

-- a contract is doubled where the tricks are too few for it
abbrev pub doubled_if_failed : ℕ → ℕ → Doubling
doubled_if_failed level tricks = (if nat_le (level + 6) tricks then Undoubled else Doubled)

-- the minors, the majors, notrump
abbrev pub first_row : Strain → ℕ
first_row (Trump Clubs) = 0
first_row (Trump Diamonds) = 0
first_row (Trump Hearts) = 2
first_row (Trump Spades) = 2
first_row Notrump = 4

-- and of each those not vulnerable before those vulnerable
abbrev pub row_of : Strain → Bool → ℕ
row_of strain vulnerable = (if vulnerable then first_row strain + 1 else first_row strain)

-- the points of all levels for so many tricks
unfoldable pub points_row : Strain → Bool → ℕ → List ℤ
points_row strain vulnerable tricks = slice_index_or (slice_index_or POINTS (row_of strain vulnerable) []) tricks []

-- for this declarer
abbrev pub declarers_row : List (List ℕ) → Vulnerable → Strain → Seat → List ℤ
declarers_row table vulnerable strain seat = points_row strain (is_vulnerable vulnerable (side_of seat)) (tricks_of table strain seat)

-- strain by strain, by code, and in each for all declarers
unfoldable pub all_rows : List (List ℕ) → Vulnerable → List (List ℤ)
all_rows table vulnerable =
    declarers_row table vulnerable (Trump Spades) North ∷ declarers_row table vulnerable (Trump Spades) East ∷ declarers_row table vulnerable (Trump Spades) South ∷ declarers_row table vulnerable (Trump Spades) West
    ∷ declarers_row table vulnerable (Trump Hearts) North ∷ declarers_row table vulnerable (Trump Hearts) East ∷ declarers_row table vulnerable (Trump Hearts) South ∷ declarers_row table vulnerable (Trump Hearts) West
    ∷ declarers_row table vulnerable (Trump Diamonds) North ∷ declarers_row table vulnerable (Trump Diamonds) East ∷ declarers_row table vulnerable (Trump Diamonds) South ∷ declarers_row table vulnerable (Trump Diamonds) West
    ∷ declarers_row table vulnerable (Trump Clubs) North ∷ declarers_row table vulnerable (Trump Clubs) East ∷ declarers_row table vulnerable (Trump Clubs) South ∷ declarers_row table vulnerable (Trump Clubs) West
    ∷ declarers_row table vulnerable Notrump North ∷ declarers_row table vulnerable Notrump East ∷ declarers_row table vulnerable Notrump South ∷ declarers_row table vulnerable Notrump West ∷ []
