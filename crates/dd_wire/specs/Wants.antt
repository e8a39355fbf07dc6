-- To be believed: what a line of a session means: what it wants of the job book, how the run is, par of given results, or its first fault.
use Rattle.std.specs.Prelude.{◌≡◌, ℕ, ◌&&◌, Bool, false, List, [], ◌∷◌, nat_lt, length, codes, Option, None, Some, option_map, Result, Ok, Err, MatchOption, if◌then◌else◌}
use Rattle.std.specs.Bool.{MatchBool}
use Rattle.std.specs.Str.{bytes_eq}
use Rattle.serde_json.specs.Data.{Members}
use Rattle.dd_pbn.specs.Reading.{◌>>=◌}
use Rattle.dd_request.specs.declared.asked.Asked.{Asked}
use Rattle.dd_wire.specs.declared.fault.Fault.{Fault}
use Rattle.dd_wire.specs.declared.fault.Fault.TheVariants.{LineTooLong, NotAnObject, WrongField}
use Rattle.dd_wire.specs.declared.want.Want.{Want}
use Rattle.dd_wire.specs.declared.want.Want.TheVariants.{Submit, Cancel, Fetch, Stop}
use Rattle.dd_wire.specs.declared.session_asked.SessionAsked.{SessionAsked}
use Rattle.dd_wire.specs.declared.session_asked.SessionAsked.TheVariants.{Book, Par, Health}
use Rattle.dd_wire.specs.ParLines.{par_fields, table_par_of}
use Rattle.dd_wire.specs.PlayLines.{MeansAsked}
use Rattle.dd_wire.specs.Requests.{asked_as, object_of, keys_of, are_among, text_at, wait_at, whole_number_at}
use Rattle.dd_lines.specs.Line.{longest_line}

-- the names of the fields of a call that names a job
abbrev pub job_keys : List (List ℕ)
job_keys = codes "do" ∷ codes "job" ∷ []

-- and of one that may wait for the job's end
abbrev pub fetch_keys : List (List ℕ)
fetch_keys = codes "do" ∷ codes "job" ∷ codes "wait" ∷ []

-- and of a call that names nothing
abbrev pub alone_keys : List (List ℕ)
alone_keys = codes "do" ∷ []

-- the number of the job that is named, where no field but these is there
abbrev pub named_job : List (List ℕ) → Members → Option ℕ
named_job known members = (if are_among known (keys_of members) then whole_number_at members (codes "job") else None)

-- does `do` stand there alone?
abbrev pub is_alone : Members → Bool
is_alone members = are_among alone_keys (keys_of members)

-- the call that only sessions know, where the members stand for one: by `do`, a cancel or a fetch with its job, or with
-- leave a stop
abbrev pub session_call : Bool → Members → Option Want
session_call allow_stop members = do
  task ← text_at members (codes "do")
  if bytes_eq task (codes "cancel") then option_map Cancel (named_job job_keys members)
      else if bytes_eq task (codes "fetch") then option_map Fetch (named_job fetch_keys members)
      else if bytes_eq task (codes "stop") && (allow_stop && is_alone members) then Some Stop else None

-- `do` asks how the run is, and stands there alone
abbrev pub asks_health : Members → Bool
asks_health members = elim (text_at members (codes "do")) [
  | None ↦ false
  | Some task ↦ bytes_eq task (codes "health") && is_alone members
]

-- a call of the book, whose reply may so long wait
abbrev pub called : ℕ → Want → SessionAsked
called wait want = Book (record { want = want; wait = wait })

-- a request is submitted
abbrev pub submitted : ℕ → Asked → SessionAsked
submitted wait asked = called wait (Submit asked)

-- what other members ask: par of given results, or else that the request is submitted which they are
abbrev pub MeansOther : ℕ → Members → Result SessionAsked Fault → Type 0
MeansOther wait members meaning =
    MatchOption (par_fields members)
    ((asked : Result Asked Fault) × MeansAsked members asked × (meaning ≡ asked_as (submitted wait) asked))
    (λ fields. meaning ≡ asked_as Par (table_par_of fields.given fields))

-- what members ask that are no such call: how the run is, or else one of these
abbrev pub MeansUncalled : ℕ → Members → Result SessionAsked Fault → Type 0
MeansUncalled wait members meaning =
    MatchBool (asks_health members) (meaning ≡ Ok Health) (MeansOther wait members meaning)

-- what the members of an object ask: such a call, or else one of these
abbrev pub MeansWanted : Bool → ℕ → Members → Result SessionAsked Fault → Type 0
MeansWanted allow_stop wait members meaning =
    MatchOption (session_call allow_stop members) (MeansUncalled wait members meaning) (λ want. meaning ≡ Ok (called wait want))

-- what a line of a session means: its length is looked at first, then that it is a JSON object, then its wait, then the other
-- members
abbrev pub MeansWant : Bool → List ℕ → Result SessionAsked Fault → Type 0
MeansWant allow_stop line meaning =
    MatchBool (nat_lt longest_line (length line)) (meaning ≡ Err LineTooLong)
    (MatchOption (object_of line) (meaning ≡ Err NotAnObject) (λ members.
    MatchOption (wait_at members) (meaning ≡ Err WrongField) (λ wait. MeansWanted allow_stop wait members meaning)))
