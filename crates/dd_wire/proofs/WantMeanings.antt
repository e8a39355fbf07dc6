-- What a line of a session means: something, and one thing.
use Rattle.std.proofs.Common.{◌≡◌, ℕ, ◌≤◌, Bool, true, false, refl, List, length}
use Rattle.std.specs.Prelude.{Some, Result, Ok, Err, nat_lt}
use Rattle.std.proofs.lemmas.Bool.{le-ltb}
use Rattle.std.specs.Bool.{MatchBool}
use Rattle.serde_json.specs.Data.{Members}
use Rattle.dd_wire.specs.declared.fault.Fault.{Fault}
use Rattle.dd_wire.specs.declared.fault.Fault.TheVariants.{LineTooLong, NotAnObject, WrongField, OutOfMemory}
use Rattle.dd_wire.specs.declared.session_asked.SessionAsked.{SessionAsked}
use Rattle.dd_wire.specs.declared.session_asked.SessionAsked.TheVariants.{Par, Health}
use Rattle.dd_wire.specs.ParLines.{par_fields, table_par_of}
use Rattle.dd_wire.specs.PlayLines.{MeansAsked}
use Rattle.dd_wire.specs.Requests.{asked_as, object_of, wait_at}
use Rattle.dd_lines.specs.Line.{longest_line}
use Rattle.dd_wire.specs.Wants.{MeansWant, MeansWanted, MeansUncalled, MeansOther, asks_health, called, session_call, submitted}
use Rattle.dd_wire.proofs.Meanings.{SomeMeaning, by-test, by-option, by-fields, some-way, way-memory}
use Rattle.dd_wire.proofs.OneMeaning.{AtMostOne, both, one-by-test, one-by-option, one-way}
use Rattle.dd_wire.proofs.ParMeanings.{table_par-memory, way-fault}
use Rattle.dd_wire.proofs.PlayMeanings.{one-taken, some-taken, taken-memory}

-- a line that is not too long means what the members of its object ask, with their wait
pub means-wanted : (leave : Bool) (line : List ℕ) (object : Members) (wait : ℕ) (meaning : Result SessionAsked Fault)
    → length line ≤ longest_line → object_of line ≡ Some object → wait_at object ≡ Some wait → MeansWanted leave wait object meaning → MeansWant leave line meaning
means-wanted leave line object wait meaning short is waits means =
    let test : nat_lt longest_line (length line) ≡ false = le-ltb longest_line (length line) short in
    rw (test, is, waits) means

-- ---- every line has a meaning
some-other : (wait : ℕ) (members : Members) → SomeMeaning (MeansOther wait members)
some-other wait members =
    by-option (par_fields members) _ _ (some-way (submitted wait) (MeansAsked members) (some-taken members)) (λ fields _. (asked_as Par (table_par_of fields.given fields), refl))

some-uncalled : (wait : ℕ) (members : Members) → SomeMeaning (MeansUncalled wait members)
some-uncalled wait members = by-test (asks_health members) _ _ (λ _. (Ok Health, refl)) (λ _. some-other wait members)

pub some-wanted : (leave : Bool) (wait : ℕ) (members : Members) → SomeMeaning (MeansWanted leave wait members)
some-wanted leave wait members = by-option (session_call leave members) _ _ (some-uncalled wait members) (λ want _. (Ok (called wait want), refl))

pub some-want : (leave : Bool) (line : List ℕ) → (meaning : Result SessionAsked Fault) × MeansWant leave line meaning
some-want leave line =
    by-test (nat_lt longest_line (length line)) _ _ (λ _. (Err LineTooLong, refl)) (λ _.
    by-option (object_of line) _ _ (Err NotAnObject, refl) (λ members _.
    by-option (wait_at members) _ _ (Err WrongField, refl) (λ wait _. some-wanted leave wait members)))

-- ---- and one
one-other : (wait : ℕ) (members : Members) → AtMostOne (MeansOther wait members)
one-other wait members = one-by-option (par_fields members) _ _ (one-way (submitted wait) (MeansAsked members) (one-taken members)) (λ fields. both _)

one-uncalled : (wait : ℕ) (members : Members) → AtMostOne (MeansUncalled wait members)
one-uncalled wait members = one-by-test (asks_health members) _ _ (both _) (one-other wait members)

pub one-wanted : (leave : Bool) (wait : ℕ) (members : Members) → AtMostOne (MeansWanted leave wait members)
one-wanted leave wait members = one-by-option (session_call leave members) _ _ (one-uncalled wait members) (λ want. both _)

pub one-want : (leave : Bool) (line : List ℕ) (a b : Result SessionAsked Fault) → MeansWant leave line a → MeansWant leave line b → a ≡ b
one-want leave line =
    one-by-test (nat_lt longest_line (length line)) _ _ (both _)
    (one-by-option (object_of line) _ _ (both _) (λ members.
    one-by-option (wait_at members) _ _ (both _) (λ wait. one-wanted leave wait members)))

-- ---- no meaning is that memory ran out
abbrev no_memory : Result SessionAsked Fault
no_memory = Err OutOfMemory

other-memory : (wait : ℕ) (members : Members) → MeansOther wait members (Err OutOfMemory) → ⊥
other-memory wait members =
    by-fields (par_fields members) _ _
    (λ means. way-memory (submitted wait) (MeansAsked members) (taken-memory members) means.0 means.1 means.2)
    (λ fields is. table_par-memory fields.given fields (way-fault Par (table_par_of fields.given fields) OutOfMemory is))

uncalled-memory : (wait : ℕ) (members : Members) → MeansUncalled wait members (Err OutOfMemory) → ⊥
uncalled-memory wait members = go (asks_health members)
  where
    go : (asks : Bool) → MatchBool asks (no_memory ≡ Ok Health) (MeansOther wait members no_memory) → ⊥
    go true means = cc
    go false means = other-memory wait members means

pub wanted-memory : (leave : Bool) (wait : ℕ) (members : Members) → MeansWanted leave wait members (Err OutOfMemory) → ⊥
wanted-memory leave wait members = by-fields (session_call leave members) _ _ (uncalled-memory wait members) (λ want no-memory. cc)
