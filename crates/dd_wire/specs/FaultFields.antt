-- To be believed: the field that a fault of a line tells of.
use Rattle.std.specs.Prelude.{ℕ, Bool, true, not, ◌&&◌, List, [], ◌∷◌, codes, Option, None, Some, is_some, if◌then◌else◌}
use Rattle.std.specs.List.{list_any}
use Rattle.std.specs.Str.{bytes_eq}
use Rattle.serde_json.specs.Data.{Members, no_members, member}
use Rattle.serde_json.specs.Find.{get_member}
use Rattle.dd_pbn.specs.Reading.{◌>>=◌}
use Rattle.dd_wire.specs.declared.fault.Fault.{Fault}
use Rattle.dd_wire.specs.declared.fault.Fault.TheVariants.{LineTooLong, NotAnObject, WrongField, DealText, HandLeftOut, CardTwice, WrongTrump, WrongFirst, WrongPlayed, WrongSolutions, WrongTarget, WrongOrder, WrongVulnerable, WrongResult, UnevenHands, NoCard, NotThirteen, AfterLast, NotInHand, Revoke, OutOfMemory}
use Rattle.dd_wire.specs.declared.fault_field.Task.{Task}
use Rattle.dd_wire.specs.declared.fault_field.Task.TheVariants.{Solve, Table, Play, Par, TablePar, Fetch, Cancel, Health, Stop}
use Rattle.dd_wire.specs.Ids.{is_plain}
use Rattle.dd_wire.specs.ParLines.{first_in, given_in, par_keys}
use Rattle.dd_wire.specs.PlayLines.{list_of_pairs, play_keys}
use Rattle.dd_wire.specs.Requests.{pairs_at, table_keys, target_keys, text_at, wait_at, whole_number_at}
use Rattle.dd_wire.specs.Wants.{alone_keys, fetch_keys, job_keys}

-- ---- a member

-- a member of this key is there
abbrev pub has_key : Members → List ℕ → Bool
has_key members key = is_some (get_member key members)

-- a text is there
abbrev pub has_text : Members → List ℕ → Bool
has_text members key = is_some (text_at members key)

-- a whole number is there
abbrev pub has_number : Members → List ℕ → Bool
has_number members key = is_some (whole_number_at members key)

-- a whole number is there, or nothing
abbrev pub may_have_number : Members → List ℕ → Bool
may_have_number members key = if has_key members key then has_number members key else true

-- ---- the wrong field

-- what a line of the line tool asks for, by its `do`
abbrev pub task_of : List ℕ → Option Task
task_of task =
    if bytes_eq task (codes "solve") then Some Solve
    else if bytes_eq task (codes "table") then Some Table
    else if bytes_eq task (codes "play") then Some Play
    else if bytes_eq task (codes "par") then Some Par else None

-- what a line of a session asks for: a stop only with leave, and par of given results alone
abbrev pub session_task : Bool → List ℕ → Option Task
session_task allow_stop task =
    if bytes_eq task (codes "fetch") then Some Fetch
    else if bytes_eq task (codes "cancel") then Some Cancel
    else if bytes_eq task (codes "health") then Some Health
    else if bytes_eq task (codes "stop") then (if allow_stop then Some Stop else None)
    else if bytes_eq task (codes "par") then Some TablePar else task_of task

-- the names of the fields of par in a session
abbrev pub table_par_keys : List (List ℕ)
table_par_keys = codes "dealer" ∷ codes "do" ∷ codes "side" ∷ codes "table" ∷ codes "vulnerable" ∷ []

-- the names of the fields of a task
abbrev pub keys_for : Task → List (List ℕ)
keys_for Solve = target_keys
keys_for Table = table_keys
keys_for Play = play_keys
keys_for Par = par_keys
keys_for TablePar = table_par_keys
keys_for Fetch = fetch_keys
keys_for Cancel = job_keys
keys_for Health = alone_keys
keys_for Stop = alone_keys

-- the first key that is none of the known
abbrev pub other_key : List (List ℕ) → Members → Option (List ℕ)
other_key known no_members = None
other_key known (member key value rest) = if list_any (bytes_eq key) known then other_key known rest else Some key

-- a key as it may be told
abbrev pub told_key : List ℕ → Option (List ℕ)
told_key key = if is_plain key then Some key else None

-- of the fields of a position the first that is missing or of the wrong kind
abbrev pub wrong_of_solve : Members → Option (List ℕ)
wrong_of_solve members =
    if not (has_text members (codes "deal")) then Some (codes "deal")
    else if not (has_number members (codes "trump")) then Some (codes "trump")
    else if not (has_number members (codes "first")) then Some (codes "first")
    else if not (is_some (pairs_at members (codes "played"))) then Some (codes "played")
    else if not (has_number members (codes "solutions")) then Some (codes "solutions")
    else if not (may_have_number members (codes "target")) then Some (codes "target") else None

-- of those of a table
abbrev pub wrong_of_table : Members → Option (List ℕ)
wrong_of_table members = if not (has_text members (codes "deal")) then Some (codes "deal") else None

-- the cards of a play are a list of pairs
abbrev pub has_cards : Members → Bool
has_cards members = is_some (get_member (codes "cards") members >>= list_of_pairs)

-- of those of a play
abbrev pub wrong_of_play : Members → Option (List ℕ)
wrong_of_play members =
    if not (has_text members (codes "deal")) then Some (codes "deal")
    else if not (has_number members (codes "trump")) then Some (codes "trump")
    else if not (has_number members (codes "first")) then Some (codes "first")
    else if not (has_cards members) then Some (codes "cards") else None

-- the name of two fields that is told: the second where it stands there alone
abbrev pub one_of_two : Members → List ℕ → List ℕ → List ℕ
one_of_two members first second = if has_key members second && not (has_key members first) then second else first

-- of those of par
abbrev pub wrong_of_par : Members → Option (List ℕ)
wrong_of_par members =
    if not (is_some (given_in members)) then Some (one_of_two members (codes "table") (codes "deal"))
    else if not (is_some (first_in members)) then Some (one_of_two members (codes "dealer") (codes "side"))
    else if not (has_number members (codes "vulnerable")) then Some (codes "vulnerable") else None

-- of a call that names a job
abbrev pub wrong_of_call : Members → Option (List ℕ)
wrong_of_call members = if not (has_number members (codes "job")) then Some (codes "job") else None

-- of those of a task
abbrev pub wrong_known : Task → Members → Option (List ℕ)
wrong_known Solve members = wrong_of_solve members
wrong_known Table members = wrong_of_table members
wrong_known Play members = wrong_of_play members
wrong_known Par members = wrong_of_par members
wrong_known TablePar members = wrong_of_par members
wrong_known Fetch members = wrong_of_call members
wrong_known Cancel members = wrong_of_call members
wrong_known Health _ = None
wrong_known Stop _ = None

-- the first key that is no field of the task, or else the first field that is missing or of the wrong kind
abbrev pub wrong_for : Members → Task → Option (List ℕ)
wrong_for members task = elim (other_key (keys_for task) members) [
  | None ↦ wrong_known task members
  | Some key ↦ told_key key
]

-- the task of the members of a line of the line tool, and of a session
abbrev pub task_in : Members → Option Task
task_in members = text_at members (codes "do") >>= task_of

abbrev pub session_task_in : Bool → Members → Option Task
session_task_in allow_stop members = text_at members (codes "do") >>= session_task allow_stop

-- the wait first, then `do`, then the fields of the task
abbrev pub wrong_in : Option Task → Members → Option (List ℕ)
wrong_in task members =
    if not (is_some (wait_at members)) then Some (codes "wait")
    else elim task [ None ↦ Some (codes "do") | Some task ↦ wrong_for members task ]

-- of a line of the line tool
unfoldable pub wrong_field : Members → Option (List ℕ)
wrong_field members = wrong_in (task_in members) members

-- of a line of a session
unfoldable pub wrong_want : Bool → Members → Option (List ℕ)
wrong_want allow_stop members = wrong_in (session_task_in allow_stop members) members

-- ---- the field of a fault

-- the deal, where no cards were played that may be at fault too
abbrev pub deal_alone : Members → Option (List ℕ)
deal_alone members = if has_key members (codes "played") then None else Some (codes "deal")

-- the field that the fault of these members tells of, if there is one
unfoldable pub field_of : Members → Fault → Option (List ℕ)
field_of members WrongField = wrong_field members
field_of _ DealText = Some (codes "deal")
field_of _ HandLeftOut = Some (codes "deal")
field_of members CardTwice = deal_alone members
field_of members UnevenHands = deal_alone members
field_of _ NoCard = Some (codes "deal")
field_of _ NotThirteen = Some (codes "deal")
field_of _ WrongTrump = Some (codes "trump")
field_of _ WrongFirst = Some (codes "first")
field_of members WrongPlayed = Some (one_of_two members (codes "played") (codes "cards"))
field_of _ WrongSolutions = Some (codes "solutions")
field_of _ WrongTarget = Some (codes "target")
field_of members WrongOrder = Some (one_of_two members (codes "dealer") (codes "side"))
field_of _ WrongVulnerable = Some (codes "vulnerable")
field_of _ WrongResult = Some (codes "table")
field_of _ AfterLast = Some (codes "cards")
field_of _ NotInHand = Some (codes "cards")
field_of _ Revoke = Some (codes "cards")
field_of _ LineTooLong = None
field_of _ NotAnObject = None
field_of _ OutOfMemory = None

-- the same of members in a session
unfoldable pub want_field : Bool → Members → Fault → Option (List ℕ)
want_field allow_stop members WrongField = wrong_want allow_stop members
want_field allow_stop members fault = field_of members fault
