-- To be believed: what a request line means: the position and the number of cards that it asks for, or its first fault.
use Rattle.std.specs.Prelude.{◌≡◌, ℕ, ◌<◌, ◌⊎◌, ◌&&◌, min, Bool, List, [], ◌∷◌, map, nat_lt, nat_le, length, codes, Option, None, Some, option_and_then, option_map, Result, Ok, Err, MatchOption, if◌then◌else◌}
use Rattle.std.specs.Bool.{MatchBool}
use Rattle.std.specs.List.{list_any, list_all}
use Rattle.std.specs.Str.{is_utf8, bytes_eq}
use Rattle.serde_json.specs.Data.{Data, Members, no_members, member, Items, no_items, item}
use Rattle.serde_json.specs.Find.{get_member, as_object, as_array, as_str, as_number, as_u64}
use Rattle.serde_json.specs.Read.{read}
use Rattle.dd_cards.specs.PlayingCard.{PlayingCard}
use Rattle.dd_cards.specs.Ranks.{is_rank}
use Rattle.dd_cards.specs.Suits.{suit_code}
use Rattle.dd_cards.specs.Seats.{seat_code}
use Rattle.dd_cards.specs.Strains.{strain_code}
use Rattle.dd_cards.specs.Hands.{FourHands, AreHands}
use Rattle.dd_pbn.specs.declared.fault.PbnFault.{PbnFault}
use Rattle.dd_pbn.specs.declared.fault.PbnFault.TheVariants.{Grammar, Absent, Twice}
use Rattle.dd_pbn.specs.Reading.{◌>>=◌}
use Rattle.dd_pbn.specs.Values.{begins_tag}
use Rattle.dd_pbn.specs.Deals as deals
use Rattle.dd_play.specs.Board.{Board, NoneTwice, IsEven, tricks_left}
use Rattle.dd_request.specs.Questions.{Question}
use Rattle.dd_request.specs.Targets.{TargetQuestion}
use Rattle.dd_request.specs.Results.{AreEven}
use Rattle.dd_request.specs.declared.asked.Asked.{Asked}
use Rattle.dd_request.specs.declared.asked.Asked.TheVariants.{Solve, Table, Target}
use Rattle.dd_wire.specs.declared.wish.TheConstants.{LONGEST_WAIT}
use Rattle.dd_wire.specs.declared.fault.Fault.{Fault}
use Rattle.dd_wire.specs.declared.fault.Fault.TheVariants.{WrongField, DealText, HandLeftOut, CardTwice, WrongTrump, WrongFirst, WrongPlayed, WrongSolutions, WrongTarget, UnevenHands, NoCard}

-- the fields of a request to solve; the cards played as pairs of a suit's code and a rank
pub record SolveFields : Type 0 where
  pub deal : List ℕ
  pub trump : ℕ
  pub first : ℕ
  pub played : List (ℕ × ℕ)
  pub solutions : ℕ

-- and of one with a target
pub record TargetFields : Type 0 where
  pub solve : SolveFields
  pub target : ℕ

-- ---- JSON

-- the members of the object that the line is as JSON
abbrev pub object_of : List ℕ → Option Members
object_of line = (if is_utf8 line then option_and_then as_object (read line) else None)

abbrev pub keys_of : Members → List (List ℕ)
keys_of no_members = []
keys_of (member key value rest) = key ∷ keys_of rest

-- the text at this key
abbrev pub text_at : Members → List ℕ → Option (List ℕ)
text_at members key = option_and_then as_str (get_member key members)

-- a whole number, written with digits alone and below 2 ^ 64
abbrev pub whole_number : Data → Option ℕ
whole_number value = option_and_then as_u64 (as_number value)

abbrev pub whole_number_at : Members → List ℕ → Option ℕ
whole_number_at members key = option_and_then whole_number (get_member key members)

-- how many milliseconds the reply may wait: none where that is left out, and never more than the most; nothing where it is no
-- whole number
abbrev pub wait_at : Members → Option ℕ
wait_at members = elim (get_member (codes "wait") members) [
  | None ↦ Some 0
  | Some value ↦ option_map (λ count. min count LONGEST_WAIT) (whole_number value)
]

-- a list of exactly two whole numbers
abbrev pub pair_of : Items → Option (ℕ × ℕ)
pair_of no_items = None
pair_of (item suit no_items) = None
pair_of (item suit (item rank no_items)) = do
  suit ← whole_number suit
  rank ← whole_number rank
  Some (suit, rank)
pair_of (item suit (item rank (item other rest))) = None

-- a value that is such a list
abbrev pub pair_of_value : Data → Option (ℕ × ℕ)
pair_of_value value = as_array value >>= pair_of

-- a list of such values
abbrev pub pairs_of : Items → Option (List (ℕ × ℕ))
pairs_of no_items = Some []
pairs_of (item value rest) = do
  pair ← pair_of_value value
  pairs ← pairs_of rest
  Some (pair ∷ pairs)

-- the pairs at this key, and none where the key is left out
abbrev pub pairs_at : Members → List ℕ → Option (List (ℕ × ℕ))
pairs_at members key = elim (get_member key members) [
  | None ↦ Some []
  | Some value ↦ option_and_then pairs_of (as_array value)
]

-- the names of the fields of a request to solve
abbrev pub solve_keys : List (List ℕ)
solve_keys = codes "deal" ∷ codes "do" ∷ codes "first" ∷ codes "played" ∷ codes "solutions" ∷ codes "trump" ∷ codes "wait" ∷ []

-- and of one with a target
abbrev pub target_keys : List (List ℕ)
target_keys = codes "deal" ∷ codes "do" ∷ codes "first" ∷ codes "played" ∷ codes "solutions" ∷ codes "target" ∷ codes "trump" ∷ codes "wait" ∷ []

-- and of a request for a table
abbrev pub table_keys : List (List ℕ)
table_keys = codes "deal" ∷ codes "do" ∷ codes "wait" ∷ []

-- is each of these keys one of the known?
abbrev pub are_among : List (List ℕ) → List (List ℕ) → Bool
are_among known keys = list_all (λ key. list_any (bytes_eq key) known) keys

-- the fields, where all of them are there, each of its kind
abbrev pub known_fields : Members → Option SolveFields
known_fields members = do
  task ← text_at members (codes "do")
  if bytes_eq task (codes "solve") then (do
    deal ← text_at members (codes "deal")
    trump ← whole_number_at members (codes "trump")
    first ← whole_number_at members (codes "first")
    played ← pairs_at members (codes "played")
    solutions ← whole_number_at members (codes "solutions")
    Some (record { deal = deal; trump = trump; first = first; played = played; solutions = solutions })) else None

-- the same, where no other field is there
abbrev pub solve_fields : Members → Option SolveFields
solve_fields members = (if are_among solve_keys (keys_of members) then known_fields members else None)

-- the fields with a target, where this is there too, and no other field is
abbrev pub target_fields : Members → Option TargetFields
target_fields members = if are_among target_keys (keys_of members) then (do
  fields ← known_fields members
  target ← whole_number_at members (codes "target")
  Some (record { solve = fields; target = target })) else None

-- the text of the deal whose table is asked for, where it is there and no other field is
abbrev pub table_deal : Members → Option (List ℕ)
table_deal members = if are_among table_keys (keys_of members) then (do
  task ← text_at members (codes "do")
  if bytes_eq task (codes "table") then text_at members (codes "deal") else None) else None

-- ---- the deal

-- the text of a deal, as a tag where it begins as one, and else as a value
abbrev pub SpellsDeal : List ℕ → FourHands → Type 0
SpellsDeal text hands = MatchBool (begins_tag text) (deals.TagText text hands) (deals.DealText text hands)

-- why it spells no deal
abbrev pub SpellsNone : List ℕ → PbnFault → Type 0
SpellsNone text fault = MatchBool (begins_tag text) (deals.TagFault text fault) (deals.DealFault text fault)

-- the fault of a request with such a deal
abbrev pub deal_fault : PbnFault → Fault
deal_fault Grammar = DealText
deal_fault Absent = HandLeftOut
deal_fault Twice = CardTwice

-- ---- the position

-- at most three pairs, each of a suit's code and a rank
abbrev pub are_cards : List (ℕ × ℕ) → Bool
are_cards pairs = nat_le (length pairs) 3 && list_all (λ pair. nat_lt pair.0 4 && is_rank pair.1) pairs

-- the pair of a card
abbrev pub pair_of_card : PlayingCard → ℕ × ℕ
pair_of_card c = (suit_code c.suit, c.rank)

-- these hands, with the strain, the leader and the trick of these codes
pub record IsAskedOf (cards : FourHands) (fields : SolveFields) (board : Board) : Type 0 where
  pub hands : board.hands ≡ cards
  pub strain : strain_code board.strain ≡ fields.trump
  pub first : seat_code board.first ≡ fields.first
  pub trick : map pair_of_card board.trick ≡ fields.played

-- the cards decide: one that stands twice, uneven hands, none to play, or a position of which this is asked
pub record MeansBoard {A : Type 0} (board : Board) (asked : A) (meaning : Result A Fault) : Type 0 where
  pub twice : (NoneTwice board → ⊥) → meaning ≡ Err CardTwice
  pub uneven : NoneTwice board → (IsEven board → ⊥) → meaning ≡ Err UnevenHands
  pub none : NoneTwice board → IsEven board → tricks_left board ≡ 0 → meaning ≡ Err NoCard
  pub some : NoneTwice board → IsEven board → 0 < tricks_left board → meaning ≡ Ok asked

-- the cards together, in the position of which this is asked
abbrev pub MeansCards : {A : Type 0} → SolveFields → FourHands → (Board → A) → Result A Fault → Type 0
MeansCards fields hands asked meaning = (board : Board) × IsAskedOf hands fields board × MeansBoard board (asked board) meaning

-- the trump, then the leader, then the cards played, then the rest
abbrev pub MeansStart : {A : Type 0} → SolveFields → (Result A Fault → Type 0) → Result A Fault → Type 0
MeansStart fields Rest meaning =
    MatchBool (nat_lt 4 fields.trump) (meaning ≡ Err WrongTrump)
    (MatchBool (nat_lt 3 fields.first) (meaning ≡ Err WrongFirst)
    (MatchBool (are_cards fields.played) (Rest meaning) (meaning ≡ Err WrongPlayed)))

-- the solutions of these fields are 1 to so many
abbrev pub are_solutions : SolveFields → ℕ → Bool
are_solutions fields most = nat_le 1 fields.solutions && nat_le fields.solutions most

-- so many cards of a position
abbrev pub question : ℕ → Board → Question
question solutions board = record { board = board; solutions = solutions }

-- then the solutions, then the cards together
abbrev pub MeansSolutions : SolveFields → FourHands → Result Question Fault → Type 0
MeansSolutions fields hands meaning =
    MatchBool (are_solutions fields 3) (MeansCards fields hands (question fields.solutions) meaning) (meaning ≡ Err WrongSolutions)

abbrev pub MeansHands : SolveFields → FourHands → Result Question Fault → Type 0
MeansHands fields hands = MeansStart fields (MeansSolutions fields hands)

-- those that reach a target
abbrev pub target_question : TargetFields → Board → TargetQuestion
target_question fields board = record { board = board; target = fields.target; solutions = fields.solve.solutions }

-- with a target the solutions are 1 or 2; then the target, then the cards together
abbrev pub MeansTarget : TargetFields → FourHands → Result TargetQuestion Fault → Type 0
MeansTarget fields hands meaning =
    MatchBool (are_solutions fields.solve 2)
    (MatchBool (nat_lt 13 fields.target) (meaning ≡ Err WrongTarget) (MeansCards fields.solve hands (target_question fields) meaning))
    (meaning ≡ Err WrongSolutions)

abbrev pub MeansTargetHands : TargetFields → FourHands → Result TargetQuestion Fault → Type 0
MeansTargetHands fields hands = MeansStart fields.solve (MeansTarget fields hands)

-- the deal first
abbrev pub MeansDeal : {A : Type 0} → List ℕ → (FourHands → Result A Fault → Type 0) → Result A Fault → Type 0
MeansDeal text Of meaning =
    ((hands : FourHands) × AreHands hands × SpellsDeal text hands × Of hands meaning)
    ⊎ ((fault : PbnFault) × SpellsNone text fault × (meaning ≡ Err (deal_fault fault)))

abbrev pub MeansFields : SolveFields → Result Question Fault → Type 0
MeansFields fields = MeansDeal fields.deal (MeansHands fields)

abbrev pub MeansTargetFields : TargetFields → Result TargetQuestion Fault → Type 0
MeansTargetFields fields = MeansDeal fields.solve.deal (MeansTargetHands fields)

-- ---- the table

-- the numbers of cards decide: uneven hands, none to play, or hands with a table
pub record MeansTable (hands : FourHands) (meaning : Result FourHands Fault) : Type 0 where
  pub uneven : (AreEven hands → ⊥) → meaning ≡ Err UnevenHands
  pub none : AreEven hands → length hands.north ≡ 0 → meaning ≡ Err NoCard
  pub some : AreEven hands → 0 < length hands.north → meaning ≡ Ok hands

-- ---- the members

-- what is asked in this way, or the fault
abbrev pub asked_as : {A B : Type 0} → (A → B) → Result A Fault → Result B Fault
asked_as way (Ok asked) = Ok (way asked)
asked_as way (Err fault) = Err fault

-- the cards of a position with their scores are asked for
abbrev pub MeansSolve : Members → Result Asked Fault → Type 0
MeansSolve members meaning = MatchOption (solve_fields members) (meaning ≡ Err WrongField) (λ fields.
    (asked : Result Question Fault) × MeansFields fields asked × (meaning ≡ asked_as Solve asked))

-- those of a position that reach a target are, or else those with their scores
abbrev pub MeansPosition : Members → Result Asked Fault → Type 0
MeansPosition members meaning = MatchOption (target_fields members) (MeansSolve members meaning) (λ fields.
    (asked : Result TargetQuestion Fault) × MeansTargetFields fields asked × (meaning ≡ asked_as Target asked))

-- what the members of an object ask: a table, or else cards of a position
abbrev pub MeansObject : Members → Result Asked Fault → Type 0
MeansObject members meaning =
    MatchOption (table_deal members) (MeansPosition members meaning)
    (λ deal. (asked : Result FourHands Fault) × MeansDeal deal MeansTable asked × (meaning ≡ asked_as Table asked))
