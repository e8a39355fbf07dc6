-- To be believed: the reply of the line tool to a line where its id is told again and a fault says why.
use Rattle.std.specs.Prelude.{◌≡◌, ℕ, ◌<◌, ◌⊎◌, List, length, codes, nat_lt, None, Some, Result, Ok, Err, MatchOption}
use Rattle.std.specs.Bool.{MatchBool}
use Rattle.serde_json.specs.Data.{Members}
use Rattle.serde_json.specs.Find.{get_member}
use Rattle.dd_lines.specs.Line.{longest_line}
use Rattle.dd_wire.specs.declared.fault.Fault.{Fault}
use Rattle.dd_wire.specs.declared.fault.Fault.TheVariants.{LineTooLong, NotAnObject, WrongField, OutOfMemory}
use Rattle.dd_wire.specs.declared.line_asked.LineAsked.{LineAsked}
use Rattle.dd_wire.specs.FaultFields.{field_of}
use Rattle.dd_wire.specs.Faults.{fault_number}
use Rattle.dd_wire.specs.FaultWords.{explained_text, fault_told, words_of_line}
use Rattle.dd_wire.specs.Ids.{id_text, with_id, without}
use Rattle.dd_wire.specs.LineReplies.{IsAnswer, IsSearched}
use Rattle.dd_wire.specs.Lines.{MeansMembers}
use Rattle.dd_wire.specs.Replies.{spent_text}
use Rattle.dd_wire.specs.Requests.{object_of, wait_at}

-- what members without an id ask, or their first fault, as of a line without the option
unfoldable pub MeansBare : Members → Result LineAsked Fault → Type 0
MeansBare members meaning = MatchOption (wait_at members) (meaning ≡ Err WrongField) (λ wait. MeansMembers members meaning)

-- the reply to members of this meaning: the answer as it always is, or the fault with its field and words
abbrev pub IsBareReplyTo : Members → Result LineAsked Fault → List ℕ → Type 0
IsBareReplyTo _ (Ok asked) text = IsAnswer asked text
IsBareReplyTo members (Err fault) text = text ≡ fault_told fault (field_of members fault)

-- the reply to members without an id: that of their meaning, or that a search for it was given up
unfoldable pub IsBareReply : Type 0 → Members → List ℕ → Type 0
IsBareReply gave_up members text =
    ((meaning : Result LineAsked Fault) × MeansBare members meaning × IsBareReplyTo members meaning text)
    ⊎ ((asked : LineAsked) × MeansBare members (Ok asked) × IsSearched asked × gave_up × (text ≡ spent_text))

-- the reply to members with this id: that to the others, with the id
abbrev pub IsReplyWithId : Type 0 → Members → List ℕ → List ℕ → Type 0
IsReplyWithId gave_up members id text = (reply : List ℕ) × IsBareReply gave_up (without (codes "id") members) reply × (text ≡ with_id id reply)

-- the reply to members: they have no id, or one that is none, or one that is told again
unfoldable pub IsObjectReply : Type 0 → Members → List ℕ → Type 0
IsObjectReply gave_up members text = MatchOption (get_member (codes "id") members) (IsBareReply gave_up members text) (λ value.
    MatchOption (id_text value) (text ≡ fault_told WrongField (Some (codes "id"))) (λ id. IsReplyWithId gave_up members id text))

-- the reply to a line that gave no object: it is none, or memory ran out while it was read
unfoldable pub IsUnreadReply : List ℕ → List ℕ → Type 0
IsUnreadReply line text =
    ((object_of line ≡ None) × (text ≡ explained_text (fault_number NotAnObject) None (words_of_line line)))
    ⊎ ((0 < length line) × (text ≡ fault_told OutOfMemory None))

-- The text is the reply to the line: its length is looked at first, then that it is a JSON object, then its members; or memory
-- ran out while it was read.
unfoldable pub IsExplained : Type 0 → List ℕ → List ℕ → Type 0
IsExplained gave_up line text =
    MatchBool (nat_lt longest_line (length line)) (text ≡ fault_told LineTooLong None)
    (((members : Members) × (object_of line ≡ Some members) × IsObjectReply gave_up members text) ⊎ IsUnreadReply line text)
