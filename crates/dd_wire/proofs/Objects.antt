-- What a line is as a JSON object.
use Rattle.std.proofs.Common.{◌≡◌, Bool, true, false, cond, refl, ap, ◌∙◌, List, ℕ}
use Rattle.std.specs.Prelude.{None, Some, option_and_then, Result, Ok, Err, MatchResult, IfOk, IfErr}
use Rattle.std.specs.Result.{IsErrAnd}
use Rattle.std.specs.Str.{IsUtf8, is_utf8}
use Rattle.std.proofs.lemmas.Str.{IsUtf8-from_is_utf8, is_utf8-from_IsUtf8}
use Rattle.serde_json.specs.Data.{Data}
use Rattle.serde_json.specs.Find.{as_object}
use Rattle.serde_json.specs.Read.{read}
use Rattle.dd_wire.specs.Requests.{object_of}

-- a text that is read is the object that its value is, if any
pub object_of-read : (line : List ℕ) (value : Data) → IsUtf8 line → read line ≡ Some value → object_of line ≡ as_object value
object_of-read line value utf8 is =
    ap (λ test. cond test (option_and_then as_object (read line)) None) (is_utf8-from_IsUtf8 line utf8) ∙ ap (option_and_then as_object) is

-- bytes that are no text, and a text that is not read, are no object
pub object_of-refused : (line : List ℕ) → (IsUtf8 line → read line ≡ None) → object_of line ≡ None
object_of-refused line refused =
    let at : (test : Bool) → is_utf8 line ≡ test → cond test (option_and_then as_object (read line)) None ≡ None =
    λ test. elim test as (λ t. is_utf8 line ≡ t → cond t (option_and_then as_object (read line)) None ≡ None)
    [ true ↦ λ is. ap (option_and_then as_object) (refused (IsUtf8-from_is_utf8 line is)) | false ↦ λ _. refl ] in
    at (is_utf8 line) refl

-- what holds of a value that was read holds of it once the error is turned
pub map_err-ok : {T E D : Type 0} (result : Result T E) (turned : Result T D) (Q : E → D → Type 0) (P R : T → Type 0)
    → MatchResult result (λ x. turned ≡ Ok x) (λ e. IsErrAnd turned (Q e)) → IfOk result P → ((x : T) → P x → R x) → IfOk turned R
map_err-ok (Ok x) turned Q P R is holds then-r = rw is (then-r x holds)
map_err-ok (Err e) (Err d) Q P R is holds then-r = tt
map_err-ok (Err e) (Ok y) Q P R is holds then-r = elim is [ ]

-- and of an error, by what turns it
pub map_err-err : {T E D : Type 0} (result : Result T E) (turned : Result T D) (Q : E → D → Type 0) (P S : E → Type 0) (R : D → Type 0)
    → MatchResult result (λ x. turned ≡ Ok x) (λ e. IsErrAnd turned (Q e)) → IfErr result P → IfErr result S → ((e : E) (d : D) → Q e d → P e → S e → R d) → IfErr turned R
map_err-err (Ok x) turned Q P S R is holds also then-r = rw is tt
map_err-err (Err e) (Err d) Q P S R is holds also then-r = then-r e d is holds also
map_err-err (Err e) (Ok y) Q P S R is holds also then-r = elim is [ ]

-- what holds of each error that a result may be holds of its own
pub at-each_err : {T E : Type 0} (result : Result T E) (P : E → Type 0) → ((e : E) → result ≡ Err e → P e) → IfErr result P
at-each_err (Ok x) P holds = tt
at-each_err (Err e) P holds = holds e refl
