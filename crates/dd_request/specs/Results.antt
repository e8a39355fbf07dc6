-- To be believed: the twenty results of a deal: the tricks of each declarer in each strain (DDS manual, CalcDDtable).
use Rattle.std.specs.Prelude.{◌≡◌, ℕ, ◌-◌, List, [], ◌∷◌, length, map, slice_index_or}
use Rattle.std.specs.List.{flat_map, range_with_len}
use Rattle.dd_cards.specs.declared.seat.Seat.{Seat}
use Rattle.dd_cards.specs.declared.seat.Seat.TheVariants.{North, East, South, West}
use Rattle.dd_cards.specs.declared.strain.Strain.{Strain}
use Rattle.dd_cards.specs.declared.strain.Strain.TheVariants.{Trump, Notrump}
use Rattle.dd_cards.specs.declared.suit.Suit.TheVariants.{Spades, Hearts, Diamonds, Clubs}
use Rattle.dd_cards.specs.Hands.{FourHands}
use Rattle.dd_cards.specs.Seats.{next_seat}
use Rattle.dd_play.specs.Board.{Board, board_of, tricks_left}
use Rattle.dd_play.specs.Value.{leaders_tricks}

-- ---- the hands

-- the four hands have as many cards
abbrev pub AreEven : FourHands → Type 0
AreEven hands = (length hands.east ≡ length hands.north) × (length hands.south ≡ length hands.north) × (length hands.west ≡ length hands.north)

-- ---- the contracts

-- what is played, and by whom
pub record Contract : Type 0 where
  pub strain : Strain
  pub declarer : Seat

abbrev pub all_strains : List Strain
all_strains = Trump Spades ∷ Trump Hearts ∷ Trump Diamonds ∷ Trump Clubs ∷ Notrump ∷ []

abbrev pub all_seats : List Seat
all_seats = North ∷ East ∷ South ∷ West ∷ []

-- all contracts: by strain, then by declarer
unfoldable pub contracts : List Contract
contracts = flat_map (λ strain. map (λ declarer. record { strain = strain; declarer = declarer }) all_seats) all_strains

-- the contract of a part, 0 to 19: its place among all of them
unfoldable pub contract_of : ℕ → Contract
contract_of part = slice_index_or contracts part (record { strain = Notrump; declarer = North })

-- ---- their results

-- the hand after the declarer leads to the first trick (Laws of Duplicate Bridge 2017, Law 41A)
abbrev pub opening : FourHands → Contract → Board
opening hands contract = board_of hands contract.strain (next_seat contract.declarer) []

-- the tricks of the declarer's side, which are those that the leader's side does not take
unfoldable pub tricks_of : FourHands → Contract → ℕ
tricks_of hands contract = tricks_left (opening hands contract) - leaders_tricks (opening hands contract)

-- the results of a strain: those of North, East, South and West as declarers
abbrev pub strain_results : FourHands → Strain → List ℕ
strain_results hands strain = map (λ declarer. tricks_of hands (record { strain = strain; declarer = declarer })) all_seats

-- the twenty results: by strain, then by declarer
unfoldable pub results : FourHands → List ℕ
results hands = map (tricks_of hands) contracts

-- ---- results with what they are results of

-- the result of a part of a deal's table
pub record PartResult : Type 0 where
  pub hands : FourHands
  pub part : ℕ
  pub tricks : ℕ

abbrev pub part_result : FourHands → ℕ → PartResult
part_result hands part = record { hands = hands; part = part; tricks = tricks_of hands (contract_of part) }

-- the parts 0 to 19 in order, each with its result
unfoldable pub all_parts : FourHands → List PartResult
all_parts hands = map (part_result hands) (range_with_len 0 20)

-- a deal with its results
pub record HandsResults : Type 0 where
  pub hands : FourHands
  pub results : List ℕ

abbrev pub hands_results : FourHands → HandsResults
hands_results hands = record { hands = hands; results = results hands }
