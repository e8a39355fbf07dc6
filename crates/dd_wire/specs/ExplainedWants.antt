-- To be believed: what a line of a session means, and how its fault is told, where its id is told again and a fault says why.
use Rattle.std.specs.Prelude.{◌≡◌, ℕ, ◌<◌, ◌≤◌, ◌⊎◌, Bool, List, length, codes, nat_lt, Option, None, Some, Result, Err, MatchOption, if◌then◌else◌}
use Rattle.std.specs.Bool.{MatchBool}
use Rattle.serde_json.specs.Data.{Data, Members}
use Rattle.serde_json.specs.Find.{get_member}
use Rattle.dd_lines.specs.Line.{longest_line}
use Rattle.dd_pbn.specs.Reading.{◌>>=◌}
use Rattle.dd_wire.specs.declared.fault.Fault.{Fault}
use Rattle.dd_wire.specs.declared.fault.Fault.TheVariants.{LineTooLong, NotAnObject, WrongField, OutOfMemory}
use Rattle.dd_wire.specs.declared.session_asked.SessionAsked.{SessionAsked}
use Rattle.dd_wire.specs.FaultFields.{want_field}
use Rattle.dd_wire.specs.Faults.{fault_number}
use Rattle.dd_wire.specs.FaultWords.{explained_text, fault_told, words_of, words_of_line}
use Rattle.dd_wire.specs.Ids.{id_text, named, without}
use Rattle.dd_wire.specs.Requests.{object_of, wait_at}
use Rattle.dd_wire.specs.Wants.{MeansWanted}

-- ---- the id

-- the members of a line that is an object, and not too long
abbrev pub members_of : List ℕ → Option Members
members_of line = if nat_lt longest_line (length line) then None else object_of line

-- the id that members have, if they have one that can be told
abbrev pub id_in : Members → Option (List ℕ)
id_in object = get_member (codes "id") object >>= id_text

-- the id of a line
unfoldable pub id_of : List ℕ → Option (List ℕ)
id_of line = members_of line >>= id_in

-- ---- the meaning

-- what members without an id mean, as of a line without the option
unfoldable pub MeansBareWant : Bool → Members → Result SessionAsked Fault → Type 0
MeansBareWant allow_stop object meaning = MatchOption (wait_at object) (meaning ≡ Err WrongField) (λ wait. MeansWanted allow_stop wait object meaning)

-- what members mean: one without an id, the others without it; and an id that is none is a wrong field
unfoldable pub MeansNamed : Bool → Members → Result SessionAsked Fault → Type 0
MeansNamed allow_stop object meaning =
    MatchOption (get_member (codes "id") object) (MeansBareWant allow_stop object meaning) (λ value.
    MatchOption (id_text value) (meaning ≡ Err WrongField) (λ id. MeansBareWant allow_stop (without (codes "id") object) meaning))

-- What a line means: its length is looked at first, then that it is a JSON object, then its members.
unfoldable pub MeansExplained : Bool → List ℕ → Result SessionAsked Fault → Type 0
MeansExplained allow_stop line meaning =
    MatchBool (nat_lt longest_line (length line)) (meaning ≡ Err LineTooLong)
    (MatchOption (object_of line) (meaning ≡ Err NotAnObject) (λ object. MeansNamed allow_stop object meaning))

-- ---- the fault

-- the field of a fault of members: their id, where that is none, and else that of the members without it
abbrev pub field_beside : Bool → Members → Fault → Option (List ℕ) → Option (List ℕ)
field_beside allow_stop object fault None = Some (codes "id")
field_beside allow_stop object fault (Some id) = want_field allow_stop (without (codes "id") object) fault

abbrev pub field_with : Bool → Members → Fault → Option Data → Option (List ℕ)
field_with allow_stop object fault None = want_field allow_stop object fault
field_with allow_stop object fault (Some value) = field_beside allow_stop object fault (id_text value)

unfoldable pub named_field : Bool → Members → Fault → Option (List ℕ)
named_field allow_stop object fault = field_with allow_stop object fault (get_member (codes "id") object)

-- the words of a fault of a line without members, which say more of one that is no object
abbrev pub words_in : List ℕ → Fault → List ℕ
words_in line NotAnObject = words_of_line line
words_in line fault = words_of fault

-- how a fault of a line is told that has these members, if any: with their id, if they have one
abbrev pub fault_with : Bool → List ℕ → Fault → Option Members → List ℕ
fault_with allow_stop line fault None = explained_text (fault_number fault) None (words_in line fault)
fault_with allow_stop line fault (Some object) = named (id_in object) (fault_told fault (named_field allow_stop object fault))

-- how the fault of a line is told
unfoldable pub fault_explained : Bool → List ℕ → Fault → List ℕ
fault_explained allow_stop line fault = fault_with allow_stop line fault (members_of line)

-- The text tells the fault that the line means; or that memory ran out while it was read.
abbrev pub TellsFault : Bool → List ℕ → List ℕ → Type 0
TellsFault allow_stop line text =
    ((fault : Fault) × MeansExplained allow_stop line (Err fault) × (text ≡ fault_explained allow_stop line fault))
    ⊎ ((0 < length line) × (length line ≤ longest_line) × (text ≡ fault_told OutOfMemory None))
