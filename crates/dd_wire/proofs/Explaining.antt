-- What an explained reply is made of.
use Rattle.std.proofs.Common.{◌≡◌, ◌∙◌, ℕ, ◌<◌, ◌≤◌, ◌⊎◌, Bool, true, false, cond, inl, inr, refl, ap, List, [], ◌∷◌, length, None, Some, String, Global, bytes_eq, nat_cmp, string_bytes}
use Rattle.std.specs.Prelude.{codes, nat_lt, Result, Ok, Err}
use Rattle.std.specs.BTreeMap.{is_at}
use Rattle.std.specs.Cmp.Lexicographic.{slice_cmp}
use Rattle.std.specs.Map.{remove_entry}
use Rattle.std.proofs.lemmas.Bool.{le-ltb, lt-ltb}
use Rattle.std.proofs.lemmas.Map.Text.{is_eq-slice_cmp}
use Rattle.serde_json.specs.Data.{Data, Members, member}
use Rattle.serde_json.specs.Find.{get_member}
use Rattle.serde_json.specs.View.{members_view, view}
use Rattle.serde_json.specs.declared.value.Value.{Value}
use Rattle.dd_lines.specs.Line.{longest_line}
use Rattle.dd_wire.specs.declared.fault.Fault.{Fault}
use Rattle.dd_wire.specs.declared.fault.Fault.TheVariants.{LineTooLong, WrongField}
use Rattle.dd_wire.specs.declared.line_asked.LineAsked.{LineAsked}
use Rattle.dd_wire.specs.Explained.{IsBareReply, IsExplained, IsObjectReply, IsUnreadReply, MeansBare}
use Rattle.dd_wire.specs.FaultFields.{field_of}
use Rattle.dd_wire.specs.FaultWords.{fault_told}
use Rattle.dd_wire.specs.Ids.{id_text, with_id, without}
use Rattle.dd_wire.specs.LineReplies.{IsAnswer, IsSearched}
use Rattle.dd_wire.specs.Lines.{MeansMembers}
use Rattle.dd_wire.specs.Replies.{spent_text}
use Rattle.dd_wire.specs.Requests.{object_of, wait_at}

-- ---- members without an id

-- with a wait they mean what the rest of them means
pub bare-means : (members : Members) (wait : ℕ) (meaning : Result LineAsked Fault) → wait_at members ≡ Some wait → MeansMembers members meaning → MeansBare members meaning
unfolding MeansBare
bare-means _ wait meaning waits means = rw waits means

-- with a wait that is none they mean that
pub bare-waits : (members : Members) (meaning : Result LineAsked Fault) → wait_at members ≡ None → meaning ≡ Err WrongField → MeansBare members meaning
unfolding MeansBare
bare-waits _ meaning waits is = rw waits is

-- the answer to what they ask, or that it was given up, replies to them
pub bare-answered : (gave_up : Type 0) (members : Members) (asked : LineAsked) (text : List ℕ) → MeansBare members (Ok asked)
    → IsAnswer asked text ⊎ (IsSearched asked × gave_up × (text ≡ spent_text)) → IsBareReply gave_up members text
unfolding IsBareReply
bare-answered gave_up _ asked text means (inl is) = inl (Ok asked, means, is)
bare-answered gave_up _ asked text means (inr (searched, some, is)) = inr (asked, means, searched, some, is)

-- so does their fault
pub bare-faulty : (gave_up : Type 0) (members : Members) (fault : Fault) (text : List ℕ) → MeansBare members (Err fault) → text ≡ fault_told fault (field_of members fault)
    → IsBareReply gave_up members text
unfolding IsBareReply
bare-faulty gave_up _ fault text means is = inl (Err fault, means, is)

-- ---- members with one

-- an entry that is taken out leaves the members without it
pub without-removed : (key : List ℕ) (es : List (String Global × Value))
    → members_view (remove_entry (is_at (λ k. slice_cmp nat_cmp key (string_bytes k))) es) ≡ without key (members_view es)
without-removed key [] = refl
without-removed key (e ∷ es) =
    ap (λ b. members_view (cond b es (e ∷ rest))) (is_eq-slice_cmp key (string_bytes e.0)) ∙ go (bytes_eq key (string_bytes e.0)) (without-removed key es)
  where
    rest : List (String Global × Value)
    rest = remove_entry (is_at (λ k. slice_cmp nat_cmp key (string_bytes k))) es

    go : (b : Bool) → members_view rest ≡ without key (members_view es)
        → members_view (cond b es (e ∷ rest)) ≡ cond b (members_view es) (member (string_bytes e.0) (view e.1) (without key (members_view es)))
    go true same = refl
    go false same = ap (member (string_bytes e.0) (view e.1)) same

-- no id
pub object-bare : (gave_up : Type 0) (members : Members) (text : List ℕ) → get_member (codes "id") members ≡ None → IsBareReply gave_up members text → IsObjectReply gave_up members text
unfolding IsObjectReply
object-bare gave_up _ text none is = rw none is

-- one that is none
pub object-wrong : (gave_up : Type 0) (members : Members) (value : Data) (text : List ℕ) → get_member (codes "id") members ≡ Some value → id_text value ≡ None
    → text ≡ fault_told WrongField (Some (codes "id")) → IsObjectReply gave_up members text
unfolding IsObjectReply
object-wrong gave_up _ value text some none is = rw (some, none) is

-- one that is told again
pub object-named : (gave_up : Type 0) (members : Members) (value : Data) (id reply text : List ℕ) → get_member (codes "id") members ≡ Some value → id_text value ≡ Some id
    → IsBareReply gave_up (without (codes "id") members) reply → text ≡ with_id id reply → IsObjectReply gave_up members text
unfolding IsObjectReply
object-named gave_up _ value id reply text some named replies is = rw (some, named) (reply, replies, is)

-- ---- lines

-- too long a line
pub explained-long : (gave_up : Type 0) (line text : List ℕ) → longest_line < length line → text ≡ fault_told LineTooLong None → IsExplained gave_up line text
unfolding IsExplained
explained-long gave_up line text long is =
    let over : nat_lt longest_line (length line) ≡ true = lt-ltb longest_line (length line) long in
    rw over is

-- one that is an object
pub explained-object : (gave_up : Type 0) (line text : List ℕ) (members : Members) → length line ≤ longest_line → object_of line ≡ Some members → IsObjectReply gave_up members text
    → IsExplained gave_up line text
unfolding IsExplained
explained-object gave_up line text members short is replies =
    let test : nat_lt longest_line (length line) ≡ false = le-ltb longest_line (length line) short in
    rw test (inl (members, is, replies))

-- and one that gave none
pub explained-unread : (gave_up : Type 0) (line text : List ℕ) → length line ≤ longest_line → IsUnreadReply line text → IsExplained gave_up line text
unfolding IsExplained
explained-unread gave_up line text short replies =
    let test : nat_lt longest_line (length line) ≡ false = le-ltb longest_line (length line) short in
    rw test (inr replies)
