-- What a line of the line tool means: something, and one thing; and each meaning has a reply.
use Rattle.std.proofs.Common.{◌≡◌, ℕ, ◌≤◌, false, refl, List, length}
use Rattle.std.specs.Prelude.{Some, Result, Ok, Err, nat_lt}
use Rattle.std.proofs.lemmas.Bool.{le-ltb}
use Rattle.serde_json.specs.Data.{Members}
use Rattle.dd_lines.specs.Line.{longest_line}
use Rattle.dd_request.specs.Results.{results}
use Rattle.dd_score.specs.ParContracts.{par_contracts}
use Rattle.dd_score.proofs.CallerLemmas.{some-par}
use Rattle.dd_wire.specs.declared.fault.Fault.{Fault}
use Rattle.dd_wire.specs.declared.fault.Fault.TheVariants.{LineTooLong, NotAnObject, WrongField, OutOfMemory}
use Rattle.dd_wire.specs.declared.line_asked.LineAsked.{LineAsked}
use Rattle.dd_wire.specs.declared.line_asked.LineAsked.TheVariants.{Cards, Par, ParOfDeal}
use Rattle.dd_wire.specs.declared.par_request.Conditions.{Conditions}
use Rattle.dd_wire.specs.LineReplies.{IsReplyTo, asked_text}
use Rattle.dd_wire.specs.Lines.{Means, MeansMembers}
use Rattle.dd_wire.specs.PlayLines.{MeansAsked}
use Rattle.dd_wire.proofs.PlayMeanings.{some-taken, one-taken, taken-memory}
use Rattle.dd_wire.specs.ParLines.{par_fields}
use Rattle.dd_wire.specs.ParReplies.{TellsPar, par_text, rows_of}
use Rattle.dd_wire.specs.Replies.{fault_text}
use Rattle.dd_wire.specs.Requests.{object_of, wait_at}
use Rattle.dd_wire.proofs.Meanings.{SomeMeaning, by-test, by-option, by-fields, some-way, way-memory}
use Rattle.dd_wire.proofs.OneMeaning.{AtMostOne, both, one-by-test, one-by-option, one-way}
use Rattle.dd_wire.proofs.ParMeanings.{some-given, one-given, given-memory}

-- a line that is not too long, and has a wait, means what the other members of its object mean
pub means-members : (line : List ℕ) (object : Members) (wait : ℕ) (meaning : Result LineAsked Fault)
    → length line ≤ longest_line → object_of line ≡ Some object → wait_at object ≡ Some wait → MeansMembers object meaning → Means line meaning
means-members line object wait meaning short is waits means =
    let test : nat_lt longest_line (length line) ≡ false = le-ltb longest_line (length line) short in
    rw (test, is, waits) means

-- ---- every line has a meaning
pub some-members : (members : Members) → SomeMeaning (MeansMembers members)
some-members members =
    by-option (par_fields members) _ _ (some-way Cards (MeansAsked members) (some-taken members)) (λ fields _. some-given fields.given fields)

pub some-meaning : (line : List ℕ) → (meaning : Result LineAsked Fault) × Means line meaning
some-meaning line =
    by-test (nat_lt longest_line (length line)) _ _ (λ _. (Err LineTooLong, refl)) (λ _.
    by-option (object_of line) _ _ (Err NotAnObject, refl) (λ members _.
    by-option (wait_at members) _ _ (Err WrongField, refl) (λ wait _. some-members members)))

-- ---- and one
pub one-members : (members : Members) → AtMostOne (MeansMembers members)
one-members members =
    one-by-option (par_fields members) _ _ (one-way Cards (MeansAsked members) (one-taken members)) (λ fields. one-given fields.given fields)

pub one-meaning : (line : List ℕ) (a b : Result LineAsked Fault) → Means line a → Means line b → a ≡ b
one-meaning line =
    one-by-test (nat_lt longest_line (length line)) _ _ (both _)
    (one-by-option (object_of line) _ _ (both _) (λ members.
    one-by-option (wait_at members) _ _ (both _) (λ wait. one-members members)))

-- ---- no meaning is that memory ran out
pub members-memory : (members : Members) → MeansMembers members (Err OutOfMemory) → ⊥
members-memory members =
    by-fields (par_fields members) _ _
    (λ means. way-memory Cards (MeansAsked members) (taken-memory members) means.0 means.1 means.2)
    (λ fields means. given-memory fields.given fields means)

-- ---- each meaning has a reply
some-par-text : (rows : List (List ℕ)) (c : Conditions) → (text : List ℕ) × TellsPar rows c text
some-par-text rows c =
    let (score, is) = some-par rows c.vulnerable c.order in
    (par_text (par_contracts rows c.vulnerable c.order score) score, (score, is, refl))

pub some-answer : (meaning : Result LineAsked Fault) → (text : List ℕ) × IsReplyTo meaning text
some-answer (Ok (Cards asked)) = (asked_text asked, refl)
some-answer (Ok (Par par)) = some-par-text par.results par.conditions
some-answer (Ok (ParOfDeal par)) = some-par-text (rows_of (results par.hands)) par.conditions
some-answer (Err fault) = (fault_text fault, refl)
