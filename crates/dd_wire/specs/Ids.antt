-- To be believed: the id of a request, and its place in a reply.
use Rattle.std.specs.Prelude.{ℕ, ◌&&◌, ◌==◌, Bool, not, List, ◌++◌, drop, length, nat_le, codes, decimal, Option, None, Some, option_and_then, if◌then◌else◌}
use Rattle.std.specs.List.{list_all}
use Rattle.std.specs.Str.{bytes_eq}
use Rattle.serde_json.specs.Data.{Data, Members, no_members, member}
use Rattle.serde_json.specs.Find.{as_str}
use Rattle.dd_wire.specs.declared.id.TheConstants.{LONGEST_PLAIN}
use Rattle.dd_wire.specs.Requests.{whole_number}

-- a byte that stands in a text of JSON as it is: no control character, no quote and no backslash
abbrev pub is_plain_byte : ℕ → Bool
is_plain_byte byte = nat_le 32 byte && (not (byte == 34) && not (byte == 92))

-- a short text of such bytes
abbrev pub is_plain : List ℕ → Bool
is_plain text = nat_le (length text) LONGEST_PLAIN && list_all is_plain_byte text

-- the text in quotes
abbrev pub quoted : List ℕ → List ℕ
quoted text = codes "\"" ++ text ++ codes "\""

-- a short plain text in quotes
abbrev pub plain_id : List ℕ → Option (List ℕ)
plain_id text = if is_plain text then Some (quoted text) else None

-- an id as a reply tells it: a whole number, or a short plain text
abbrev pub id_text : Data → Option (List ℕ)
id_text value = elim (whole_number value) [
  | None ↦ option_and_then plain_id (as_str value)
  | Some number ↦ Some (decimal number)
]

-- the members without that of this key
abbrev pub without : List ℕ → Members → Members
without key no_members = no_members
without key (member other value rest) = if bytes_eq key other then rest else member other value (without key rest)

-- the reply with the id as its first member: `{"id":7,` and what followed the brace
abbrev pub with_id : List ℕ → List ℕ → List ℕ
with_id id reply = codes "{\"id\":" ++ id ++ codes "," ++ drop 1 reply

-- the reply with the id as its first member, where there is one
abbrev pub named : Option (List ℕ) → List ℕ → List ℕ
named None reply = reply
named (Some id) reply = with_id id reply
