-- Each line has an explained reply, and each reply to members opens an object.
use Rattle.std.proofs.Common.{◌≡◌, ◌⊎◌, ℕ, Bool, true, false, inl, inr, refl, sym, subst, List, ◌++◌, drop, Option, None, Some}
use Rattle.std.specs.Prelude.{codes, length, nat_lt, MatchOption, Result, Ok, Err}
use Rattle.std.specs.Bool.{MatchBool}
use Rattle.serde_json.specs.Data.{Members}
use Rattle.serde_json.specs.Find.{get_member}
use Rattle.dd_lines.specs.Line.{longest_line}
use Rattle.dd_request.specs.declared.asked.Asked.TheVariants.{Solve, Table, Target, Play}
use Rattle.dd_wire.specs.declared.fault.Fault.{Fault}
use Rattle.dd_wire.specs.declared.fault.Fault.TheVariants.{LineTooLong, NotAnObject, WrongField}
use Rattle.dd_wire.specs.declared.line_asked.LineAsked.{LineAsked}
use Rattle.dd_wire.specs.declared.line_asked.LineAsked.TheVariants.{Cards, Par, ParOfDeal}
use Rattle.dd_wire.specs.Explained.{IsBareReply, IsBareReplyTo, IsExplained, IsObjectReply, IsUnreadReply, MeansBare}
use Rattle.dd_wire.specs.FaultFields.{field_of}
use Rattle.dd_wire.specs.Faults.{fault_number}
use Rattle.dd_wire.specs.FaultWords.{explained_text, fault_told, words_of_line}
use Rattle.dd_wire.specs.Ids.{id_text, with_id, without}
use Rattle.dd_wire.specs.LineReplies.{IsAnswer}
use Rattle.dd_wire.specs.Requests.{object_of, wait_at}
use Rattle.dd_wire.proofs.LineMeanings.{some-answer, some-members}
use Rattle.dd_wire.proofs.Meanings.{SomeMeaning, by-option}

-- ---- every line has an explained reply

-- some text is such
abbrev SomeText : (List ℕ → Type 0) → Type 0
SomeText Is = (text : List ℕ) × Is text

text-by-option : {A : Type 0} (o : Option A) (P : List ℕ → Type 0) (Q : A → List ℕ → Type 0) → SomeText P → ((x : A) → SomeText (Q x)) → SomeText (λ t. MatchOption o (P t) (λ x. Q x t))
text-by-option None P Q none some = none
text-by-option (Some x) P Q none some = some x

text-by-test : (b : Bool) (P Q : List ℕ → Type 0) → SomeText P → SomeText Q → SomeText (λ t. MatchBool b (P t) (Q t))
text-by-test true P Q held failed = held
text-by-test false P Q held failed = failed

-- members without an id mean something
some-bare_meaning : (members : Members) → SomeMeaning (MeansBare members)
unfolding MeansBare
some-bare_meaning members = by-option (wait_at members) _ _ (Err WrongField, refl) (λ wait _. some-members members)

some-bare_text : (members : Members) (meaning : Result LineAsked Fault) → SomeText (IsBareReplyTo members meaning)
some-bare_text _ (Ok asked) = some-answer (Ok asked)
some-bare_text members (Err fault) = (fault_told fault (field_of members fault), refl)

-- and have a reply
some-bare : (gave_up : Type 0) (members : Members) → SomeText (IsBareReply gave_up members)
unfolding IsBareReply
some-bare gave_up members =
    let (meaning, means) = some-bare_meaning members in
    let (text, replies) = some-bare_text members meaning in
    (text, inl (meaning, means, replies))

-- so have members with an id
some-object : (gave_up : Type 0) (members : Members) → SomeText (IsObjectReply gave_up members)
unfolding IsObjectReply
some-object gave_up members =
    text-by-option (get_member (codes "id") members) _ _ (some-bare gave_up members) (λ value.
    text-by-option (id_text value) _ _ (fault_told WrongField (Some (codes "id")), refl) (λ id.
    let (reply, is) = some-bare gave_up (without (codes "id") members) in (with_id id reply, (reply, is, refl))))

-- and lines
pub some-explained : (gave_up : Type 0) (line : List ℕ) → (text : List ℕ) × IsExplained gave_up line text
unfolding IsExplained IsUnreadReply
some-explained gave_up line = text-by-test (nat_lt longest_line (length line)) _ _ (fault_told LineTooLong None, refl) (go (object_of line) refl)
  where
    go : (o : Option Members) → object_of line ≡ o
        → SomeText (λ text. ((members : Members) × (object_of line ≡ Some members) × IsObjectReply gave_up members text) ⊎ IsUnreadReply line text)
    go None is = (explained_text (fault_number NotAnObject) None (words_of_line line), inr (inl (is, refl)))
    go (Some members) is = let (text, reply) = some-object gave_up members in (text, inl (members, is, reply))

-- ---- a reply to members is an object with a member

-- the text opens such an object
abbrev Opens : List ℕ → Type 0
Opens text = text ≡ codes "{\"" ++ drop 2 text

answer-opens : (asked : LineAsked) (text : List ℕ) → IsAnswer asked text → Opens text
answer-opens (Cards (Solve question)) text is = subst Opens (sym is) refl
answer-opens (Cards (Table hands)) text is = subst Opens (sym is) refl
answer-opens (Cards (Target question)) text is = subst Opens (sym is) refl
answer-opens (Cards (Play play)) text is = subst Opens (sym is) refl
answer-opens (Par par) text (score, par-is, is) = subst Opens (sym is) refl
answer-opens (ParOfDeal par) text (score, par-is, is) = subst Opens (sym is) refl

reply-opens : (members : Members) (meaning : Result LineAsked Fault) (text : List ℕ) → IsBareReplyTo members meaning text → Opens text
reply-opens _ (Ok asked) text is = answer-opens asked text is
reply-opens _ (Err fault) text is = subst Opens (sym is) refl

pub bare-opens : (gave_up : Type 0) (members : Members) (text : List ℕ) → IsBareReply gave_up members text → text ≡ codes "{\"" ++ drop 2 text
unfolding IsBareReply
bare-opens gave_up members text (inl (meaning, means, is)) = reply-opens members meaning text is
bare-opens gave_up _ text (inr (asked, means, searched, some, is)) = subst Opens (sym is) refl
