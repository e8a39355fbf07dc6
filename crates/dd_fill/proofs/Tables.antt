-- The results of a deal by strains.
use Rattle.std.proofs.Common.{◌≡◌, ◌≤◌, arith, length, true}
use Rattle.std.specs.Prelude.{nat_le}
use Rattle.std.proofs.lemmas.Bool.{le-leb}
use Rattle.dd_cards.specs.declared.seat.Seat.{Seat}
use Rattle.dd_cards.specs.declared.seat.Seat.TheVariants.{North, East, South, West}
use Rattle.dd_cards.specs.Seats.{next_seat}
use Rattle.dd_cards.specs.Hands.{FourHands, hand_of}
use Rattle.dd_file.specs.Deals.{IsThirteen}
use Rattle.dd_score.specs.Tables.{IsTable}
use Rattle.dd_request.specs.Results.{Contract, tricks_of}
use Rattle.dd_fill.specs.Told.{table_of}

hand-thirteen : (hands : FourHands) (seat : Seat) → IsThirteen hands → length (hand_of hands seat) ≡ 13
hand-thirteen hands North thirteen = thirteen.north
hand-thirteen hands East thirteen = thirteen.east
hand-thirteen hands South thirteen = thirteen.south
hand-thirteen hands West thirteen = thirteen.west

-- so no result is over 13
tricks-thirteen : (hands : FourHands) (contract : Contract) → IsThirteen hands → tricks_of hands contract ≤ 13
unfolding tricks_of
tricks-thirteen hands contract thirteen = let cards = hand-thirteen hands (next_seat contract.declarer) thirteen in omega arith

module _ (hands : FourHands) (thirteen : IsThirteen hands) where
  tricks-test : (contract : Contract) → nat_le (tricks_of hands contract) 13 ≡ true
  tricks-test contract = le-leb (tricks_of hands contract) 13 (tricks-thirteen hands contract thirteen)

  pub table-scored : IsTable (table_of hands)
  table-scored = simp tricks-test
