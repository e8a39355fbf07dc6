-- What a line of a session means where it may have an id, and how its fault is told.
use Rattle.std.proofs.Common.{◌≡◌, ◌∙◌, ℕ, ◌<◌, ◌≤◌, Bool, true, false, inl, inr, refl, sym, ap, subst, List, length, Option, None, Some}
use Rattle.std.specs.Prelude.{codes, nat_lt, option_map, IfOk, IfErr, Result, Ok, Err}
use Rattle.std.proofs.lemmas.Bool.{le-ltb, lt-ltb}
use Rattle.serde_json.specs.Data.{Data, Members}
use Rattle.serde_json.specs.Find.{get_member}
use Rattle.dd_lines.specs.Line.{longest_line}
use Rattle.dd_wire.specs.declared.explained_want.NamedAsked.{NamedAsked}
use Rattle.dd_wire.specs.declared.fault.Fault.{Fault}
use Rattle.dd_wire.specs.declared.fault.Fault.TheVariants.{LineTooLong, NotAnObject, WrongField}
use Rattle.dd_wire.specs.declared.session_asked.SessionAsked.{SessionAsked}
use Rattle.dd_wire.specs.Explained.{IsUnreadReply}
use Rattle.dd_wire.specs.ExplainedWants.{MeansBareWant, MeansExplained, MeansNamed, TellsFault, fault_explained, fault_with, field_beside, field_with, id_in, id_of, members_of, named_field}
use Rattle.dd_wire.specs.FaultFields.{want_field}
use Rattle.dd_wire.specs.FaultWords.{fault_told}
use Rattle.dd_wire.specs.Ids.{id_text, named, without}
use Rattle.dd_wire.specs.Requests.{object_of, wait_at}
use Rattle.dd_wire.specs.Wants.{MeansWanted}
use Rattle.dd_wire.proofs.Meanings.{SomeMeaning, by-test, by-option}
use Rattle.dd_wire.proofs.OneMeaning.{AtMostOne, both, one-by-test, one-by-option}
use Rattle.dd_wire.proofs.WantMeanings.{some-wanted, one-wanted}

-- ---- object without an id

-- with a wait they mean what the rest of them means
pub bare-wants : (allow_stop : Bool) (object : Members) (wait : ℕ) (meaning : Result SessionAsked Fault) → wait_at object ≡ Some wait → MeansWanted allow_stop wait object meaning
    → MeansBareWant allow_stop object meaning
unfolding MeansBareWant
bare-wants allow_stop object wait meaning waits means = rw waits means

-- with a wait that is none they mean that
pub bare-waits-wrong : (allow_stop : Bool) (object : Members) (meaning : Result SessionAsked Fault) → wait_at object ≡ None → meaning ≡ Err WrongField → MeansBareWant allow_stop object meaning
unfolding MeansBareWant
bare-waits-wrong allow_stop object meaning waits is = rw waits is

-- ---- members that may have one
-- their fault is told so
abbrev pub IsToldNamed : Bool → Members → List ℕ → Type 0
IsToldNamed allow_stop object text =
    (fault : Fault) × MeansNamed allow_stop object (Err fault) × (text ≡ named (id_in object) (fault_told fault (named_field allow_stop object fault)))

-- an id and a field that are known are those that are told
told-as : (allow_stop : Bool) (object : Members) (text : List ℕ) (fault : Fault) (id field : Option (List ℕ)) → id_in object ≡ id → named_field allow_stop object fault ≡ field
    → text ≡ named id (fault_told fault field) → text ≡ named (id_in object) (fault_told fault (named_field allow_stop object fault))
told-as allow_stop object text fault id field id-is field-is told =
    told ∙ ap (λ (i : Option (List ℕ)). named i (fault_told fault field)) (sym id-is) ∙ ap (λ (f : Option (List ℕ)). named (id_in object) (fault_told fault f)) (sym field-is)

-- no id
pub named-bare : (allow_stop : Bool) (object : Members) (meaning : Result SessionAsked Fault) → get_member (codes "id") object ≡ None → MeansBareWant allow_stop object meaning
    → MeansNamed allow_stop object meaning
unfolding MeansNamed
named-bare allow_stop object meaning none means = rw none means

pub id-none : (object : Members) → get_member (codes "id") object ≡ None → id_in object ≡ None
id-none object none = rw none refl

field-bare : (allow_stop : Bool) (object : Members) (fault : Fault) → get_member (codes "id") object ≡ None → named_field allow_stop object fault ≡ want_field allow_stop object fault
unfolding named_field
field-bare allow_stop object fault none = ap (field_with allow_stop object fault) none

pub told-bare : (allow_stop : Bool) (object : Members) (text : List ℕ) → get_member (codes "id") object ≡ None
    → (fault : Fault) × MeansBareWant allow_stop object (Err fault) × (text ≡ named None (fault_told fault (want_field allow_stop object fault))) → IsToldNamed allow_stop object text
told-bare allow_stop object text none (fault, means, is) =
    (fault, named-bare allow_stop object (Err fault) none means, told-as allow_stop object text fault None _ (id-none object none) (field-bare allow_stop object fault none) is)

-- one that is none
means-wrong : (allow_stop : Bool) (object : Members) (value : Data) → get_member (codes "id") object ≡ Some value → id_text value ≡ None → MeansNamed allow_stop object (Err WrongField)
unfolding MeansNamed
means-wrong allow_stop object value some none = rw (some, none) refl

id-wrong : (object : Members) (value : Data) → get_member (codes "id") object ≡ Some value → id_text value ≡ None → id_in object ≡ None
id-wrong object value some none = rw (some, none) refl

field-wrong : (allow_stop : Bool) (object : Members) (value : Data) (fault : Fault) → get_member (codes "id") object ≡ Some value → id_text value ≡ None
    → named_field allow_stop object fault ≡ Some (codes "id")
unfolding named_field
field-wrong allow_stop object value fault some none = ap (field_with allow_stop object fault) some ∙ ap (field_beside allow_stop object fault) none

pub told-wrong : (allow_stop : Bool) (object : Members) (value : Data) (text : List ℕ) → get_member (codes "id") object ≡ Some value → id_text value ≡ None
    → text ≡ fault_told WrongField (Some (codes "id")) → IsToldNamed allow_stop object text
told-wrong allow_stop object value text some none is = (
  WrongField,
  means-wrong allow_stop object value some none,
  told-as allow_stop object text WrongField None (Some (codes "id")) (id-wrong object value some none) (field-wrong allow_stop object value WrongField some none) is,
)

-- one that is told again
pub named-other : (allow_stop : Bool) (object : Members) (value : Data) (id : List ℕ) (meaning : Result SessionAsked Fault) → get_member (codes "id") object ≡ Some value → id_text value ≡ Some id
    → MeansBareWant allow_stop (without (codes "id") object) meaning → MeansNamed allow_stop object meaning
unfolding MeansNamed
named-other allow_stop object value id meaning some is means = rw (some, is) means

pub id-some : (object : Members) (value : Data) (id : List ℕ) → get_member (codes "id") object ≡ Some value → id_text value ≡ Some id → id_in object ≡ Some id
id-some object value id some is = rw (some, is) refl

field-other : (allow_stop : Bool) (object : Members) (value : Data) (id : List ℕ) (fault : Fault) → get_member (codes "id") object ≡ Some value → id_text value ≡ Some id
    → named_field allow_stop object fault ≡ want_field allow_stop (without (codes "id") object) fault
unfolding named_field
field-other allow_stop object value id fault some is = ap (field_with allow_stop object fault) some ∙ ap (field_beside allow_stop object fault) is

pub told-other : (allow_stop : Bool) (object : Members) (value : Data) (id text : List ℕ) → get_member (codes "id") object ≡ Some value → id_text value ≡ Some id
    → (fault : Fault) × MeansBareWant allow_stop (without (codes "id") object) (Err fault)
    × (text ≡ named (Some id) (fault_told fault (want_field allow_stop (without (codes "id") object) fault))) → IsToldNamed allow_stop object text
told-other allow_stop object value id text some is (fault, means, told) = (
  fault,
  named-other allow_stop object value id (Err fault) some is means,
  told-as allow_stop object text fault (Some id) _ (id-some object value id some is) (field-other allow_stop object value id fault some is) told,
)

-- ---- lines

-- a fault is told by the members that a line has
fault-by : (allow_stop : Bool) (line : List ℕ) (fault : Fault) (object : Option Members) → members_of line ≡ object → fault_explained allow_stop line fault ≡ fault_with allow_stop line fault object
unfolding fault_explained
fault-by allow_stop line fault object is = ap (fault_with allow_stop line fault) is

members-long : (line : List ℕ) → longest_line < length line → members_of line ≡ None
members-long line long =
    let over : nat_lt longest_line (length line) ≡ true = lt-ltb longest_line (length line) long in
    rw over refl

members-are : (line : List ℕ) (object : Option Members) → length line ≤ longest_line → object_of line ≡ object → members_of line ≡ object
members-are line object short is =
    let test : nat_lt longest_line (length line) ≡ false = le-ltb longest_line (length line) short in
    rw test is

-- too long a line
means-long : (allow_stop : Bool) (line : List ℕ) → longest_line < length line → MeansExplained allow_stop line (Err LineTooLong)
unfolding MeansExplained
means-long allow_stop line long =
    let over : nat_lt longest_line (length line) ≡ true = lt-ltb longest_line (length line) long in
    rw over refl

pub tells-long : (allow_stop : Bool) (line text : List ℕ) → longest_line < length line → text ≡ fault_told LineTooLong None → TellsFault allow_stop line text
tells-long allow_stop line text long is =
    inl (LineTooLong, means-long allow_stop line long, is ∙ sym (fault-by allow_stop line LineTooLong None (members-long line long)))

-- one that is an object
pub means-object : (allow_stop : Bool) (line : List ℕ) (object : Members) (meaning : Result SessionAsked Fault) → length line ≤ longest_line → object_of line ≡ Some object
    → MeansNamed allow_stop object meaning → MeansExplained allow_stop line meaning
unfolding MeansExplained
means-object allow_stop line object meaning short is means =
    let test : nat_lt longest_line (length line) ≡ false = le-ltb longest_line (length line) short in
    rw (test, is) means

pub id-object : (line : List ℕ) (object : Members) → length line ≤ longest_line → object_of line ≡ Some object → id_of line ≡ id_in object
unfolding id_of
id-object line object short is =
    let test : nat_lt longest_line (length line) ≡ false = le-ltb longest_line (length line) short in
    rw (test, is) refl

pub tells-object : (allow_stop : Bool) (line text : List ℕ) (object : Members) → length line ≤ longest_line → object_of line ≡ Some object → IsToldNamed allow_stop object text
    → TellsFault allow_stop line text
tells-object allow_stop line text object short is (fault, means, told) =
    inl (fault, means-object allow_stop line object (Err fault) short is means, told ∙ sym (fault-by allow_stop line fault (Some object) (members-are line (Some object) short is)))

-- and one that gave none
means-none : (allow_stop : Bool) (line : List ℕ) → length line ≤ longest_line → object_of line ≡ None → MeansExplained allow_stop line (Err NotAnObject)
unfolding MeansExplained
means-none allow_stop line short none =
    let test : nat_lt longest_line (length line) ≡ false = le-ltb longest_line (length line) short in
    rw (test, none) refl

pub tells-unread : (allow_stop : Bool) (line text : List ℕ) → length line ≤ longest_line → IsUnreadReply line text → TellsFault allow_stop line text
unfolding IsUnreadReply
tells-unread allow_stop line text short (inl (none, is)) =
    inl (NotAnObject, means-none allow_stop line short none, is ∙ sym (fault-by allow_stop line NotAnObject None (members-are line None short none)))
tells-unread allow_stop line text short (inr (some, is)) = inr (some, short, is)

-- ---- what the program makes of them

-- what is asked without an id
pub asked-bare : {T : Type 0} (allow_stop : Bool) (object rest : Members) (result : Result NamedAsked T) → get_member (codes "id") object ≡ None → rest ≡ object
    → IfOk result (λ want. MeansBareWant allow_stop rest (Ok want.asked) × (option_map (λ i. i.bytes) want.id ≡ None))
    → IfOk result (λ want. MeansNamed allow_stop object (Ok want.asked) × (option_map (λ i. i.bytes) want.id ≡ id_in object))
asked-bare allow_stop object rest (Err text) none same asks = tt
asked-bare allow_stop object rest (Ok want) none same (means, no_id) = (
  named-bare allow_stop object (Ok want.asked) none (subst (λ (m : Members). MeansBareWant allow_stop m (Ok want.asked)) same means),
  no_id ∙ sym (id-none object none),
)

pub told-bare-err : {T : Type 0} (allow_stop : Bool) (object rest : Members) (result : Result NamedAsked T) (bytes : T → List ℕ) → get_member (codes "id") object ≡ None → rest ≡ object
    → IfErr result (λ text. (fault : Fault) × MeansBareWant allow_stop rest (Err fault) × (bytes text ≡ named None (fault_told fault (want_field allow_stop rest fault))))
    → IfErr result (λ text. IsToldNamed allow_stop object (bytes text))
told-bare-err allow_stop object rest (Ok want) bytes none same told = tt
told-bare-err allow_stop object rest (Err text) bytes none same told =
    told-bare allow_stop object (bytes text) none
    (subst (λ (m : Members). (fault : Fault) × MeansBareWant allow_stop m (Err fault) × (bytes text ≡ named None (fault_told fault (want_field allow_stop m fault)))) same told)

-- and with one
pub asked-other : {T : Type 0} (allow_stop : Bool) (object rest : Members) (value : Data) (id : List ℕ) (result : Result NamedAsked T) → get_member (codes "id") object ≡ Some value
    → id_text value ≡ Some id → rest ≡ without (codes "id") object
    → IfOk result (λ want. MeansBareWant allow_stop rest (Ok want.asked) × (option_map (λ i. i.bytes) want.id ≡ Some id))
    → IfOk result (λ want. MeansNamed allow_stop object (Ok want.asked) × (option_map (λ i. i.bytes) want.id ≡ id_in object))
asked-other allow_stop object rest value id (Err text) some is same asks = tt
asked-other allow_stop object rest value id (Ok want) some is same (means, named_so) = (
  named-other allow_stop object value id (Ok want.asked) some is (subst (λ (m : Members). MeansBareWant allow_stop m (Ok want.asked)) same means),
  named_so ∙ sym (id-some object value id some is),
)

pub told-other-err : {T : Type 0} (allow_stop : Bool) (object rest : Members) (value : Data) (id : List ℕ) (result : Result NamedAsked T) (bytes : T → List ℕ) → get_member (codes "id") object ≡ Some value
    → id_text value ≡ Some id → rest ≡ without (codes "id") object
    → IfErr result (λ text. (fault : Fault) × MeansBareWant allow_stop rest (Err fault) × (bytes text ≡ named (Some id) (fault_told fault (want_field allow_stop rest fault))))
    → IfErr result (λ text. IsToldNamed allow_stop object (bytes text))
told-other-err allow_stop object rest value id (Ok want) bytes some is same told = tt
told-other-err allow_stop object rest value id (Err text) bytes some is same told =
    told-other allow_stop object value id (bytes text) some is
    (subst (λ (m : Members). (fault : Fault) × MeansBareWant allow_stop m (Err fault) × (bytes text ≡ named (Some id) (fault_told fault (want_field allow_stop m fault)))) same told)

-- of a line
pub asked-object : {T : Type 0} (allow_stop : Bool) (line : List ℕ) (object : Members) (result : Result NamedAsked T) → length line ≤ longest_line → object_of line ≡ Some object
    → IfOk result (λ want. MeansNamed allow_stop object (Ok want.asked) × (option_map (λ i. i.bytes) want.id ≡ id_in object))
    → IfOk result (λ want. MeansExplained allow_stop line (Ok want.asked) × (option_map (λ i. i.bytes) want.id ≡ id_of line))
asked-object allow_stop line object (Err text) short is asks = tt
asked-object allow_stop line object (Ok want) short is (means, named_so) =
    (means-object allow_stop line object (Ok want.asked) short is means, named_so ∙ sym (id-object line object short is))

pub tells-object-err : {T : Type 0} (allow_stop : Bool) (line : List ℕ) (object : Members) (result : Result NamedAsked T) (bytes : T → List ℕ) → length line ≤ longest_line → object_of line ≡ Some object
    → IfErr result (λ text. IsToldNamed allow_stop object (bytes text)) → IfErr result (λ text. TellsFault allow_stop line (bytes text))
tells-object-err allow_stop line object (Ok want) bytes short is told = tt
tells-object-err allow_stop line object (Err text) bytes short is told = tells-object allow_stop line (bytes text) object short is told

-- ---- every line has a meaning, and one

some-bare : (allow_stop : Bool) (object : Members) → SomeMeaning (MeansBareWant allow_stop object)
unfolding MeansBareWant
some-bare allow_stop object = by-option (wait_at object) _ _ (Err WrongField, refl) (λ wait _. some-wanted allow_stop wait object)

some-named : (allow_stop : Bool) (object : Members) → SomeMeaning (MeansNamed allow_stop object)
unfolding MeansNamed
some-named allow_stop object =
    by-option (get_member (codes "id") object) _ _ (some-bare allow_stop object) (λ value _.
    by-option (id_text value) _ _ (Err WrongField, refl) (λ id _. some-bare allow_stop (without (codes "id") object)))

pub some-explained_want : (allow_stop : Bool) (line : List ℕ) → (meaning : Result SessionAsked Fault) × MeansExplained allow_stop line meaning
unfolding MeansExplained
some-explained_want allow_stop line =
    by-test (nat_lt longest_line (length line)) _ _ (λ _. (Err LineTooLong, refl)) (λ _.
    by-option (object_of line) _ _ (Err NotAnObject, refl) (λ object _. some-named allow_stop object))

one-bare : (allow_stop : Bool) (object : Members) → AtMostOne (MeansBareWant allow_stop object)
unfolding MeansBareWant
one-bare allow_stop object = one-by-option (wait_at object) _ _ (both _) (λ wait. one-wanted allow_stop wait object)

one-named : (allow_stop : Bool) (object : Members) → AtMostOne (MeansNamed allow_stop object)
unfolding MeansNamed
one-named allow_stop object =
    one-by-option (get_member (codes "id") object) _ _ (one-bare allow_stop object) (λ value.
    one-by-option (id_text value) _ _ (both _) (λ id. one-bare allow_stop (without (codes "id") object)))

pub one-explained_want : (allow_stop : Bool) (line : List ℕ) (a b : Result SessionAsked Fault) → MeansExplained allow_stop line a → MeansExplained allow_stop line b → a ≡ b
unfolding MeansExplained
one-explained_want allow_stop line =
    one-by-test (nat_lt longest_line (length line)) _ _ (both _)
    (one-by-option (object_of line) _ _ (both _) (λ object. one-named allow_stop object))
