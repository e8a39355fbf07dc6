-- To be believed: the score of a board in North and South's points, which are East and West's with the sign turned.
use Rattle.std.specs.Prelude.{ℕ, ◌+◌, nat_le, Bool, if◌then◌else◌, List, ℤ, neg_ℤ}
use Rattle.dd_cards.specs.declared.seat.Seat.{Seat}
use Rattle.dd_cards.specs.declared.side.Side.{Side}
use Rattle.dd_cards.specs.declared.side.Side.TheVariants.{NorthSouth, EastWest}
use Rattle.dd_cards.specs.Sides.{side_of}
use Rattle.dd_score.specs.declared.doubling.Doubling.{Doubling}
use Rattle.dd_score.specs.declared.doubling.Doubling.TheVariants.{Undoubled, Doubled}
use Rattle.dd_score.specs.declared.vulnerable.Vulnerable.{Vulnerable}
use Rattle.dd_score.specs.Vulnerability.{is_vulnerable}
use Rattle.dd_score.specs.Tables.{tricks_of}
use Rattle.dd_score.specs.Bids.{level_of, strain_of}
use Rattle.dd_score.specs.Law77.{points}

-- a side's points as North and South's
abbrev pub as_north_souths : Side → ℤ → ℤ
as_north_souths NorthSouth won = won
as_north_souths EastWest won = neg_ℤ won

-- does this declarer take the tricks that the bid undertakes to win?
abbrev pub makes : List (List ℕ) → ℕ → Seat → Bool
makes table bid declarer = nat_le (level_of bid + 6) (tricks_of table (strain_of bid) declarer)

-- the score of a contract
unfoldable pub score_of : List (List ℕ) → Vulnerable → ℕ → Seat → Doubling → ℤ
score_of table vulnerable bid declarer doubling =
    as_north_souths (side_of declarer)
    (points (level_of bid) (strain_of bid) doubling (is_vulnerable vulnerable (side_of declarer)) (tricks_of table (strain_of bid) declarer))

-- the score of a contract that is doubled where it fails and not where it makes
unfoldable pub worth : List (List ℕ) → Vulnerable → ℕ → Seat → ℤ
worth table vulnerable bid declarer = score_of table vulnerable bid declarer (if makes table bid declarer then Undoubled else Doubled)
