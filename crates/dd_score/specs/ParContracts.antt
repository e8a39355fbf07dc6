-- To be believed: the par contracts: those worth par that no bid of the other side betters.
use Rattle.std.specs.Prelude.{ℕ, zero, suc, ◌+◌, ◌-◌, ◌%◌, ◌==◌, ◌&&◌, ◌||◌, nat_lt, Bool, true, false, if◌then◌else◌, List, [], ◌∷◌, ◌++◌, Option, None, Some, ℤ}
use Rattle.std.specs.Ordering.{int_eq}
use mathlib.Core.Bool.{not}
use Rattle.dd_cards.specs.declared.seat.Seat.{Seat}
use Rattle.dd_cards.specs.declared.seat.Seat.TheVariants.{North, East, South, West}
use Rattle.dd_cards.specs.declared.side.Side.{Side}
use Rattle.dd_cards.specs.declared.side.Side.TheVariants.{NorthSouth, EastWest}
use Rattle.dd_cards.specs.declared.suit.Suit.TheVariants.{Spades, Hearts, Diamonds, Clubs}
use Rattle.dd_cards.specs.declared.strain.Strain.{Strain}
use Rattle.dd_cards.specs.declared.strain.Strain.TheVariants.{Trump, Notrump}
use Rattle.dd_cards.specs.Seats.{seat_code}
use Rattle.dd_cards.specs.Sides.{side_of, other_side, is_side}
use Rattle.dd_score.specs.declared.order.Order.{Order}
use Rattle.dd_score.specs.declared.order.Order.TheVariants.{Dealer, First}
use Rattle.dd_score.specs.declared.par_contract.Declarers.{Declarers}
use Rattle.dd_score.specs.declared.par_contract.Declarers.TheVariants.{One, Both}
use Rattle.dd_score.specs.declared.par_contract.ParContract.{ParContract}
use Rattle.dd_score.specs.declared.vulnerable.Vulnerable.{Vulnerable}
use Rattle.dd_score.specs.Bids.{bid_of}
use Rattle.dd_score.specs.Tables.{tricks_of}
use Rattle.dd_score.specs.Values.{is_as_good}
use Rattle.dd_score.specs.Worths.{worth}

-- how many are asked before this seat: with a dealer 0 to 3; with a side asked first its seats have place 0 and the others place 1
abbrev pub place_in : Order → Seat → ℕ
place_in (Dealer dealer) seat = (seat_code seat + 4 - seat_code dealer) % 4
place_in (First side) seat = (if is_side side seat then 0 else 1)

-- is the bid j by t made over the bid k by s: higher, or the same and asked earlier?
abbrev pub is_over_bid : Order → ℕ → Seat → ℕ → Seat → Bool
is_over_bid order k s j t = nat_lt k j || (k == j && nat_lt (place_in order t) (place_in order s))

-- does the bid j by t, of the other side, better the contract k by s: over it, and better for t's side than v?
unfoldable pub betters : List (List ℕ) → Vulnerable → Order → ℤ → ℕ → Seat → ℕ → Seat → Bool
betters table vulnerable order v k s j t =
    (is_side (other_side (side_of s)) t && is_over_bid order k s j t) && not (is_as_good (side_of s) v (worth table vulnerable j t))

-- does the bid j by any seat better it?
unfoldable pub is_bettered_at : List (List ℕ) → Vulnerable → Order → ℤ → ℕ → Seat → ℕ → Bool
is_bettered_at table vulnerable order v k s j =
    ((betters table vulnerable order v k s j North || betters table vulnerable order v k s j East)
    || betters table vulnerable order v k s j South) || betters table vulnerable order v k s j West

-- does a bid of 1 to n by any seat better it?
unfoldable pub is_bettered : List (List ℕ) → Vulnerable → Order → ℤ → ℕ → Seat → ℕ → Bool
is_bettered table vulnerable order v k s zero = false
is_bettered table vulnerable order v k s (suc n) =
    is_bettered table vulnerable order v k s n || is_bettered_at table vulnerable order v k s (suc n)

-- is the contract k by s a par contract: worth v, and no bid betters it?
unfoldable pub is_par_contract : List (List ℕ) → Vulnerable → Order → ℤ → ℕ → Seat → Bool
is_par_contract table vulnerable order v k s =
    int_eq (worth table vulnerable k s) v && not (is_bettered table vulnerable order v k s 35)

-- the two seats of a side
abbrev pub one_of : Side → Seat
one_of NorthSouth = North
one_of EastWest = East

abbrev pub partner_of : Side → Seat
partner_of NorthSouth = South
partner_of EastWest = West

-- a listed contract, whose tricks are the declarer's
abbrev pub listed : List (List ℕ) → ℕ → Strain → Seat → Declarers → ParContract
listed table level strain declarer declarers =
    record { level = level; strain = strain; tricks = tricks_of table strain declarer; declarers = declarers }

-- of a side's two seats those that have a par contract, as one listed contract
abbrev pub listed_by : List (List ℕ) → Side → ℕ → Strain → Bool → Bool → Option ParContract
listed_by table side level strain true true = Some (listed table level strain (one_of side) (Both side))
listed_by table side level strain true false = Some (listed table level strain (one_of side) (One (one_of side)))
listed_by table side level strain false true = Some (listed table level strain (partner_of side) (One (partner_of side)))
listed_by table side level strain false false = None

-- the first of two, if there is one
abbrev pub first_of : Option ParContract → Option ParContract → Option ParContract
first_of (Some c) rest = Some c
first_of None rest = rest

-- a side's par contracts in a strain and of a level, as one
unfoldable pub all_at : List (List ℕ) → Vulnerable → Order → ℤ → Side → Strain → ℕ → Option ParContract
all_at table vulnerable order v side strain level =
    listed_by table side level strain
    (is_par_contract table vulnerable order v (bid_of level strain) (one_of side))
    (is_par_contract table vulnerable order v (bid_of level strain) (partner_of side))

-- those of the least level from one on, of so many levels
unfoldable pub least_from : List (List ℕ) → Vulnerable → Order → ℤ → Side → Strain → ℕ → ℕ → Option ParContract
least_from table vulnerable order v side strain zero level = None
least_from table vulnerable order v side strain (suc more) level =
    first_of (all_at table vulnerable order v side strain level) (least_from table vulnerable order v side strain more (level + 1))

-- of a side's par contracts in a strain those of the least level, as one
abbrev pub least_of : List (List ℕ) → Vulnerable → Order → ℤ → Strain → Side → Option ParContract
least_of table vulnerable order v strain side = least_from table vulnerable order v side strain 7 1

-- one or none, at the end of a list
abbrev pub with_contract : List ParContract → Option ParContract → List ParContract
with_contract contracts None = contracts
with_contract contracts (Some c) = contracts ++ c ∷ []

-- the strain of a code
abbrev pub strain_coded : ℕ → Strain
strain_coded zero = Trump Spades
strain_coded (suc zero) = Trump Hearts
strain_coded (suc (suc zero)) = Trump Diamonds
strain_coded (suc (suc (suc zero))) = Trump Clubs
strain_coded (suc (suc (suc (suc more)))) = Notrump

-- those of the strains with codes below n: strain by strain, North and South's before East and West's
unfoldable pub contracts_below : List (List ℕ) → Vulnerable → Order → ℤ → ℕ → List ParContract
contracts_below table vulnerable order v zero = []
contracts_below table vulnerable order v (suc n) =
    with_contract
    (with_contract (contracts_below table vulnerable order v n) (least_of table vulnerable order v (strain_coded n) NorthSouth))
    (least_of table vulnerable order v (strain_coded n) EastWest)

-- the list of par contracts
abbrev pub par_contracts : List (List ℕ) → Vulnerable → Order → ℤ → List ParContract
par_contracts table vulnerable order v = contracts_below table vulnerable order v 5
