-- The results of a deal as they are scored.
use Rattle.std.proofs.Common.{◌≡◌, ◌≤◌, arith, length, true}
use Rattle.std.specs.Prelude.{nat_le}
use Rattle.std.proofs.lemmas.Bool.{le-leb}
use Rattle.dd_cards.specs.declared.seat.Seat.{Seat}
use Rattle.dd_cards.specs.declared.seat.Seat.TheVariants.{North, East, South, West}
use Rattle.dd_cards.specs.Seats.{next_seat}
use Rattle.dd_cards.specs.Hands.{FourHands, hand_of}
use Rattle.dd_score.specs.Tables.{IsTable}
use Rattle.dd_request.specs.Results.{AreEven, Contract, contracts, tricks_of, results}
use Rattle.dd_wire.specs.ParReplies.{rows_of}

-- each hand has thirteen cards
hand-thirteen : (hands : FourHands) (seat : Seat) → AreEven hands → length hands.north ≡ 13 → length (hand_of hands seat) ≡ 13
hand-thirteen hands North even thirteen = thirteen
hand-thirteen hands East even thirteen = omega (arith, even.0)
hand-thirteen hands South even thirteen = omega (arith, even.1)
hand-thirteen hands West even thirteen = omega (arith, even.2)

-- so no result is over 13
tricks-thirteen : (hands : FourHands) (contract : Contract) → AreEven hands → length hands.north ≡ 13 → tricks_of hands contract ≤ 13
unfolding tricks_of
tricks-thirteen hands contract even thirteen = let cards = hand-thirteen hands (next_seat contract.declarer) even thirteen in omega arith

module _ (hands : FourHands) (even : AreEven hands) (thirteen : length hands.north ≡ 13) where
  tricks-test : (contract : Contract) → nat_le (tricks_of hands contract) 13 ≡ true
  tricks-test contract = le-leb (tricks_of hands contract) 13 (tricks-thirteen hands contract even thirteen)

  pub results-table : IsTable (rows_of (results hands))
  unfolding results contracts
  results-table = simp tricks-test
