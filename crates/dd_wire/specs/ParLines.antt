-- To be believed: what a line that asks for par means: the results of a deal or the deal itself, who calls first and the vulnerability; or its first
-- fault.
use Rattle.std.specs.Prelude.{◌≡◌, ℕ, zero, suc, ◌==◌, List, [], ◌∷◌, nat_le, length, codes, Option, None, Some, option_map, Result, Ok, Err, MatchResult, if◌then◌else◌}
use Rattle.std.specs.List.{list_all}
use Rattle.std.specs.Str.{bytes_eq}
use Rattle.serde_json.specs.Data.{Data, Members, Items, no_items, item}
use Rattle.serde_json.specs.Find.{get_member, as_array}
use Rattle.dd_cards.specs.declared.seat.Seat.{Seat}
use Rattle.dd_cards.specs.declared.seat.Seat.TheVariants.{North, East, South, West}
use Rattle.dd_cards.specs.declared.side.Side.{Side}
use Rattle.dd_cards.specs.declared.side.Side.TheVariants as sides
use Rattle.dd_cards.specs.Hands.{FourHands}
use Rattle.dd_pbn.specs.Reading.{◌>>=◌}
use Rattle.dd_score.specs.declared.order.Order.{Order}
use Rattle.dd_score.specs.declared.order.Order.TheVariants as orders
use Rattle.dd_score.specs.declared.vulnerable.Vulnerable.{Vulnerable}
use Rattle.dd_score.specs.declared.vulnerable.Vulnerable.TheVariants.{Neither, Both, NorthSouth, EastWest}
use Rattle.dd_wire.specs.declared.fault.Fault.{Fault}
use Rattle.dd_wire.specs.declared.fault.Fault.TheVariants.{WrongField, WrongOrder, WrongVulnerable, WrongResult, NotThirteen}
use Rattle.dd_wire.specs.declared.par_reader.FirstCode.{FirstCode}
use Rattle.dd_wire.specs.declared.par_reader.FirstCode.TheVariants as firsts
use Rattle.dd_wire.specs.declared.par_request.Conditions.{Conditions}
use Rattle.dd_wire.specs.declared.par_request.ParOfResults.{ParOfResults}
use Rattle.dd_wire.specs.Requests.{MeansDeal, MeansTable, are_among, keys_of, text_at, whole_number, whole_number_at}

-- ---- the fields

-- what par is asked of: twenty results, or the text of a deal
pub data Given : Type 0 where
  results : List (List ℕ) → Given
  deal : List ℕ → Given

-- the fields of a request for par; who calls first by a dealer's code or a side's
pub record ParFields : Type 0 where
  pub given : Given
  pub first : FirstCode
  pub vulnerable : ℕ

-- the names of these fields
abbrev pub par_keys : List (List ℕ)
par_keys = codes "deal" ∷ codes "dealer" ∷ codes "do" ∷ codes "side" ∷ codes "table" ∷ codes "vulnerable" ∷ []

-- a list of exactly four whole numbers, the results of a strain
abbrev pub row_of : Items → Option (List ℕ)
row_of no_items = None
row_of (item north no_items) = None
row_of (item north (item east no_items)) = None
row_of (item north (item east (item south no_items))) = None
row_of (item north (item east (item south (item west no_items)))) = do
  north ← whole_number north
  east ← whole_number east
  south ← whole_number south
  west ← whole_number west
  Some (north ∷ east ∷ south ∷ west ∷ [])
row_of (item north (item east (item south (item west (item other rest))))) = None

abbrev pub row_of_value : Data → Option (List ℕ)
row_of_value value = as_array value >>= row_of

-- a list of exactly five such lists
abbrev pub rows_of : Items → Option (List (List ℕ))
rows_of no_items = None
rows_of (item spades no_items) = None
rows_of (item spades (item hearts no_items)) = None
rows_of (item spades (item hearts (item diamonds no_items))) = None
rows_of (item spades (item hearts (item diamonds (item clubs no_items)))) = None
rows_of (item spades (item hearts (item diamonds (item clubs (item notrump no_items))))) = do
  spades ← row_of_value spades
  hearts ← row_of_value hearts
  diamonds ← row_of_value diamonds
  clubs ← row_of_value clubs
  notrump ← row_of_value notrump
  Some (spades ∷ hearts ∷ diamonds ∷ clubs ∷ notrump ∷ [])
rows_of (item spades (item hearts (item diamonds (item clubs (item notrump (item other rest)))))) = None

abbrev pub rows_of_value : Data → Option (List (List ℕ))
rows_of_value value = as_array value >>= rows_of

-- what par is asked of, where just one of the two stands there
abbrev pub given_in : Members → Option Given
given_in members = elim (get_member (codes "table") members) [
  | None ↦ option_map deal (text_at members (codes "deal"))
  | Some table ↦ elim (get_member (codes "deal") members) [
    | None ↦ option_map results (rows_of_value table)
    | Some both ↦ None
  ]
]

-- who calls first, where just one of the two stands there
abbrev pub first_in : Members → Option FirstCode
first_in members = elim (get_member (codes "dealer") members) [
  | None ↦ option_map firsts.Side (whole_number_at members (codes "side"))
  | Some dealer ↦ elim (get_member (codes "side") members) [
    | None ↦ option_map firsts.Dealer (whole_number dealer)
    | Some both ↦ None
  ]
]

-- the fields, where all of them are there, each of its kind, and no other is
abbrev pub par_fields : Members → Option ParFields
par_fields members = if are_among par_keys (keys_of members) then (do
  task ← text_at members (codes "do")
  if bytes_eq task (codes "par") then (do
    given ← given_in members
    first ← first_in members
    vulnerable ← whole_number_at members (codes "vulnerable")
    Some (record { given = given; first = first; vulnerable = vulnerable })) else None) else None

-- ---- their codes

abbrev pub seat_coded : ℕ → Option Seat
seat_coded zero = Some North
seat_coded (suc zero) = Some East
seat_coded (suc (suc zero)) = Some South
seat_coded (suc (suc (suc zero))) = Some West
seat_coded (suc (suc (suc (suc more)))) = None

-- a side's code is 0 for North and South, and 1 for East and West
abbrev pub side_coded : ℕ → Option Side
side_coded zero = Some sides.NorthSouth
side_coded (suc zero) = Some sides.EastWest
side_coded (suc (suc more)) = None

abbrev pub order_coded : FirstCode → Option Order
order_coded (firsts.Dealer code) = option_map orders.Dealer (seat_coded code)
order_coded (firsts.Side code) = option_map orders.First (side_coded code)

-- DDS: 0 neither side, 1 both, 2 North and South, 3 East and West
abbrev pub vulnerable_coded : ℕ → Option Vulnerable
vulnerable_coded zero = Some Neither
vulnerable_coded (suc zero) = Some Both
vulnerable_coded (suc (suc zero)) = Some NorthSouth
vulnerable_coded (suc (suc (suc zero))) = Some EastWest
vulnerable_coded (suc (suc (suc (suc more)))) = None

-- ---- the meaning

-- who calls first, then the vulnerability
abbrev pub conditions_of : FirstCode → ℕ → Result Conditions Fault
conditions_of first code = elim (order_coded first) [
  | None ↦ Err WrongOrder
  | Some order ↦ elim (vulnerable_coded code) [
    | None ↦ Err WrongVulnerable
    | Some vulnerable ↦ Ok (record { vulnerable = vulnerable; order = order })
  ]
]

-- these first, then that no result is over 13
abbrev pub par_of_results : FirstCode → ℕ → List (List ℕ) → Result ParOfResults Fault
par_of_results first vulnerable rows = elim (conditions_of first vulnerable) [
  | Err fault ↦ Err fault
  | Ok conditions ↦ if list_all (list_all (λ tricks. nat_le tricks 13)) rows then Ok (record { results = rows; conditions = conditions }) else Err WrongResult
]

-- the same where the results are given; a deal isn't known
abbrev pub table_par_of : Given → ParFields → Result ParOfResults Fault
table_par_of (results rows) fields = par_of_results fields.first fields.vulnerable rows
table_par_of (deal text) fields = Err WrongField

-- par of the results of a deal
pub record DealPar : Type 0 where
  pub hands : FourHands
  pub conditions : Conditions

-- hands of thirteen cards, after the faults of a table
abbrev pub of_thirteen : Conditions → Result FourHands Fault → Result DealPar Fault
of_thirteen conditions (Err fault) = Err fault
of_thirteen conditions (Ok hands) = if length hands.north == 13 then Ok (record { hands = hands; conditions = conditions }) else Err NotThirteen

-- the hands are there: who calls first, then the vulnerability, then the cards
abbrev pub MeansDealt : FirstCode → ℕ → FourHands → Result DealPar Fault → Type 0
MeansDealt first vulnerable hands meaning =
    MatchResult (conditions_of first vulnerable)
    (λ conditions. (asked : Result FourHands Fault) × MeansTable hands asked × (meaning ≡ of_thirteen conditions asked))
    (λ fault. meaning ≡ Err fault)

-- the deal first
abbrev pub MeansParOfDeal : FirstCode → ℕ → List ℕ → Result DealPar Fault → Type 0
MeansParOfDeal first vulnerable text = MeansDeal text (MeansDealt first vulnerable)
