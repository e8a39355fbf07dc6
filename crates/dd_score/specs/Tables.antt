-- To be believed: the twenty results of a deal, as five lists of four: strains by code, and in each North, East, South, West.
use Rattle.std.specs.Prelude.{ℕ, nat_le, IsTrue, List, [], slice_index_or}
use Rattle.std.specs.List.{list_all}
use Rattle.dd_cards.specs.declared.seat.Seat.{Seat}
use Rattle.dd_cards.specs.declared.strain.Strain.{Strain}
use Rattle.dd_cards.specs.Seats.{seat_code}
use Rattle.dd_cards.specs.Strains.{strain_code}

-- the tricks that this declarer takes in this strain
abbrev pub tricks_of : List (List ℕ) → Strain → Seat → ℕ
tricks_of table strain declarer = slice_index_or (slice_index_or table (strain_code strain) []) (seat_code declarer) 0

-- no result is above 13
abbrev pub IsTable : List (List ℕ) → Type 0
IsTable table = IsTrue (list_all (list_all (λ tricks. nat_le tricks 13)) table)
