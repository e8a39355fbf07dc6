-- Reading a line of a usual form, step by step.
use denote.Bor.{Bor}
use Rattle.std.specs.Prelude.{◌≡◌, ℕ, ◌≤◌, min, List, [], ◌∷◌, map, length, codes, Bool, true, false, Option, None, Some, option_map, Result}
use Rattle.json.specs.Token.{Token}
use Rattle.json.specs.Lex.{Place, lex, between, punctuate, may_begin, may_close, fresh, after_value, after_comma}
use Rattle.json.specs.Json as json
use Rattle.serde_json.specs.Data.{Data, number, unsigned, string, array, Items, no_items, item, Members, no_members, member, put}
use Rattle.serde_json.specs.Read.{of_json, of_items, of_members, converted}
use Rattle.dd_wire.specs.declared.usual_reader.Task.{Task}
use Rattle.dd_wire.specs.declared.usual_reader.Task.TheVariants as tasks
use Rattle.dd_wire.specs.declared.usual_reader.KeyName.{KeyName}
use Rattle.dd_wire.specs.declared.usual_reader.KeyName.TheVariants as keys
use Rattle.dd_wire.specs.declared.usual_reader.Row.{Row}
use Rattle.dd_wire.specs.declared.usual_reader.Rows.{Rows}
use Rattle.dd_wire.specs.declared.on_trick.OnTrick.{OnTrick}
use Rattle.dd_wire.specs.declared.usual_reader.Fields.{Fields}
use Rattle.dd_cards.specs.PlayingCard.{PlayingCard}
use Rattle.dd_wire.specs.declared.par_reader.FirstCode.{FirstCode}
use Rattle.dd_wire.specs.declared.par_reader.FirstCode.TheVariants as firsts
use Rattle.dd_wire.specs.declared.request_reader.SolveFields as kept
use Rattle.dd_request.specs.declared.asked.Asked.{Asked}
use Rattle.dd_wire.specs.declared.fault.Fault.{Fault}
use Rattle.dd_wire.specs.declared.par_reader.ParFields as kept_par
use Rattle.dd_wire.specs.declared.session_asked.SessionAsked.{SessionAsked}
use Rattle.dd_wire.specs.declared.want.Want.TheVariants.{Fetch}
use Rattle.dd_wire.specs.declared.wish.TheConstants.{LONGEST_WAIT}
use Rattle.dd_wire.specs.ParLines.{par_fields}
use Rattle.dd_wire.specs.PlayLines.{MeansAsked, play_fields}
use Rattle.dd_wire.specs.Reading.{ArePlayed, fields_of, played_in}
use Rattle.dd_wire.specs.ReadingPar as par
use Rattle.dd_wire.specs.Requests.{SolveFields, pair_of_card, solve_fields, target_fields, table_deal, wait_at}
use Rattle.dd_wire.specs.Wants.{MeansWanted, asks_health, session_call}

-- ---- a text and its tokens

-- the tokens of a text at such a place
abbrev pub left : Place → List ℕ → List Token
left place text = punctuate place (lex between text)

-- where a value may begin, the text is this one and then the rest; arrays may have to nest so deep
pub record IsValue (least : ℕ) (text : List ℕ) (value : Data) (rest : List ℕ) : Type 0 where
  pub reads : (depth : ℕ) (place : Place) → least ≤ depth → may_begin place ≡ true → converted of_json (json.value depth (left place text)) ≡ Some (value, left after_value rest)

-- the text is these items of an array, up to its bracket
pub record AreItems (least : ℕ) (place : Place) (text : List ℕ) (items : Items) (rest : List ℕ) : Type 0 where
  pub reads : (depth n : ℕ) → least ≤ depth → length (left place text) ≤ n → converted of_items (json.items (json.value depth) n (left place text)) ≡ Some (items, left after_value rest)

-- an array opens here, or closes, or the next value follows a comma
pub record Opens (text rest : List ℕ) : Type 0 where
  pub reads : (place : Place) → may_begin place ≡ true → left place text ≡ Token.begin_array ∷ left fresh rest

pub record Closes (text rest : List ℕ) : Type 0 where
  pub reads : (place : Place) → may_close place ≡ true → left place text ≡ Token.end_array ∷ left after_value rest

pub record GoesOn (text rest : List ℕ) : Type 0 where
  pub reads : left after_value text ≡ left after_comma rest

-- the key of a member, and its value
pub record IsMember (text key : List ℕ) (value : Data) (rest : List ℕ) : Type 0 where
  pub after : List ℕ
  pub named : (place : Place) → may_begin place ≡ true → left place text ≡ Token.key key ∷ left fresh after
  pub valued : IsValue 2 after value rest

-- the text is the members of an object up to its brace, and they go in after the old ones
pub record AreMembers (place : Place) (text : List ℕ) (old new : Members) (rest : List ℕ) : Type 0 where
  pub reads : (n : ℕ) → length (left place text) ≤ n → converted (λ found. of_members found old) (json.members (json.value 126) n (left place text)) ≡ Some (new, left after_value rest)

-- ---- the members that fields stand for

abbrev pub key_text : KeyName → List ℕ
key_text keys.Deal = codes "deal"
key_text keys.Dealer = codes "dealer"
key_text keys.Do = codes "do"
key_text keys.First = codes "first"
key_text keys.Job = codes "job"
key_text keys.Played = codes "played"
key_text keys.Side = codes "side"
key_text keys.Solutions = codes "solutions"
key_text keys.Table = codes "table"
key_text keys.Target = codes "target"
key_text keys.Trump = codes "trump"
key_text keys.Vulnerable = codes "vulnerable"
key_text keys.Wait = codes "wait"

abbrev pub task_text : Task → List ℕ
task_text tasks.Solve = codes "solve"
task_text tasks.Par = codes "par"
task_text tasks.Fetch = codes "fetch"

abbrev pub items_of_row : Row → Items
items_of_row row = item (number (unsigned row.north)) (item (number (unsigned row.east)) (item (number (unsigned row.south)) (item (number (unsigned row.west)) no_items)))

abbrev pub items_of_rows : Rows → Items
items_of_rows rows = item (array (items_of_row rows.spades)) (item (array (items_of_row rows.hearts)) (item (array (items_of_row rows.diamonds)) (item (array (items_of_row rows.clubs)) (item (array (items_of_row rows.notrump)) no_items))))

abbrev pub items_of_pair : ℕ × ℕ → Items
items_of_pair pair = item (number (unsigned pair.0)) (item (number (unsigned pair.1)) no_items)

-- pairs before other items
abbrev pub pairs_before : List (ℕ × ℕ) → Items → Items
pairs_before [] rest = rest
pairs_before (pair ∷ pairs) rest = item (array (items_of_pair pair)) (pairs_before pairs rest)

abbrev pub items_of_pairs : List (ℕ × ℕ) → Items
items_of_pairs pairs = pairs_before pairs no_items

-- what stands at a key, by its field
abbrev pub text_in : Option (Bor (List ℕ)) → Option Data
text_in found = option_map (λ text. string text.now) found

abbrev pub number_in : Option ℕ → Option Data
number_in found = option_map (λ n. number (unsigned n)) found

abbrev pub task_in : Option Task → Option Data
task_in found = option_map (λ task. string (task_text task)) found

abbrev pub table_in : Option Rows → Option Data
table_in found = option_map (λ rows. array (items_of_rows rows)) found

abbrev pub trick_in : Option OnTrick → Option Data
trick_in found = option_map (λ trick. array (items_of_pairs (map pair_of_card trick.cards.items))) found

-- the keys in their order, each with its value where it stands there
abbrev pub slots : Fields → List (List ℕ × Option Data)
slots fields =
    (codes "deal", text_in fields.deal)
    ∷ (codes "dealer", number_in fields.dealer)
    ∷ (codes "do", task_in fields.task)
    ∷ (codes "first", number_in fields.first)
    ∷ (codes "job", number_in fields.job)
    ∷ (codes "played", trick_in fields.played)
    ∷ (codes "side", number_in fields.side)
    ∷ (codes "solutions", number_in fields.solutions)
    ∷ (codes "table", table_in fields.table)
    ∷ (codes "target", number_in fields.target)
    ∷ (codes "trump", number_in fields.trump)
    ∷ (codes "vulnerable", number_in fields.vulnerable)
    ∷ (codes "wait", number_in fields.wait)
    ∷ []

abbrev pub slotted : List ℕ → Option Data → Members → Members
slotted key None rest = rest
slotted key (Some value) rest = member key value rest

abbrev pub members_in : List (List ℕ × Option Data) → Members
members_in [] = no_members
members_in (slot ∷ rest) = slotted slot.0 slot.1 (members_in rest)

abbrev pub members_of : Fields → Members
members_of fields = members_in (slots fields)

-- a value was read, and is now where none was
pub record Puts (text : List ℕ) (was is : Option Data) (rest : List ℕ) : Type 0 where
  pub value : Data
  pub none : was ≡ None
  pub some : is ≡ Some value
  pub valued : IsValue 2 text value rest

-- a member goes into its field, which was empty
pub record Adds (text : List ℕ) (old : Fields) (rest : List ℕ) (new : Fields) : Type 0 where
  pub key : List ℕ
  pub value : Data
  pub is : IsMember text key value rest
  pub added : put key value (members_of old) ≡ members_of new

-- ---- what fields of one form are

abbrev pub row_list : Row → List ℕ
row_list row = row.north ∷ row.east ∷ row.south ∷ row.west ∷ []

abbrev pub rows_list : Rows → List (List ℕ)
rows_list rows = row_list rows.spades ∷ row_list rows.hearts ∷ row_list rows.diamonds ∷ row_list rows.clubs ∷ row_list rows.notrump ∷ []

-- who calls first, where just one of the two stands there
abbrev pub first_of : Option ℕ → Option ℕ → Option FirstCode
first_of None None = None
first_of None (Some side) = Some (firsts.Side side)
first_of (Some dealer) None = Some (firsts.Dealer dealer)
first_of (Some dealer) (Some side) = None

abbrev pub cards_or_none : Option OnTrick → List PlayingCard
cards_or_none None = []
cards_or_none (Some trick) = trick.cards.items

-- how long a reply may wait where this stands there
abbrev pub wait_of : Option ℕ → ℕ
wait_of None = 0
wait_of (Some count) = min count LONGEST_WAIT

-- the fields of a request to solve are these, with this target or none
abbrev pub ReadsPosition : Members → Option ℕ → SolveFields → Type 0
ReadsPosition members None fields = (target_fields members ≡ None) × (solve_fields members ≡ Some fields)
ReadsPosition members (Some target) fields = target_fields members ≡ Some (record { solve = fields; target = target })

-- the members are no call that sessions alone know, and don't ask how the run is
pub record IsUncalled (members : Members) : Type 0 where
  pub call : (leave : Bool) → session_call leave members ≡ None
  pub health : asks_health members ≡ false

-- the members are those of a request to solve with this target or none, kept so, and of no other request
pub record IsSolve (members : Members) (target : Option ℕ) (wait : ℕ) (fields : kept.SolveFields) : Type 0 where
  pub par : par_fields members ≡ None
  pub play : play_fields members ≡ None
  pub table : table_deal members ≡ None
  pub pairs : List (ℕ × ℕ)
  pub played : ArePlayed (played_in fields) pairs
  pub read : ReadsPosition members target (fields_of fields pairs)
  pub waits : wait_at members ≡ Some wait
  pub uncalled : IsUncalled members

-- the members ask this of the cards of a position, and may wait so long
pub record AsksCards (members : Members) (wait : ℕ) (asked : Result Asked Fault) : Type 0 where
  pub par : par_fields members ≡ None
  pub means : MeansAsked members asked
  pub waits : wait_at members ≡ Some wait
  pub uncalled : IsUncalled members

-- the members ask for par, kept so
pub record AsksPar (members : Members) (fields : kept_par.ParFields) : Type 0 where
  pub read : par_fields members ≡ Some (par.fields_of fields)
  pub waits : wait_at members ≡ Some 0
  pub uncalled : IsUncalled members

-- the members ask for the state of this job, and may wait so long
pub record AsksFetch (members : Members) (wait job : ℕ) : Type 0 where
  pub call : (leave : Bool) → session_call leave members ≡ Some (Fetch job)
  pub waits : wait_at members ≡ Some wait

-- in a session the members mean this, with leave to stop and without
abbrev pub IsWanted : Members → Result SessionAsked Fault → Type 0
IsWanted members meaning = (wait : ℕ) × (wait_at members ≡ Some wait) × ((leave : Bool) → MeansWanted leave wait members meaning)
