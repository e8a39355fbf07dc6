-- To be believed: what a line of the line tool means: what it asks, or its first fault.
use Rattle.std.specs.Prelude.{◌≡◌, ℕ, List, nat_lt, length, Result, Err, MatchOption}
use Rattle.std.specs.Bool.{MatchBool}
use Rattle.serde_json.specs.Data.{Members}
use Rattle.dd_request.specs.declared.asked.Asked.{Asked}
use Rattle.dd_lines.specs.Line.{longest_line}
use Rattle.dd_wire.specs.declared.fault.Fault.{Fault}
use Rattle.dd_wire.specs.declared.fault.Fault.TheVariants.{LineTooLong, NotAnObject, WrongField}
use Rattle.dd_wire.specs.declared.line_asked.LineAsked.{LineAsked}
use Rattle.dd_wire.specs.declared.line_asked.LineAsked.TheVariants.{Cards, Par, ParOfDeal}
use Rattle.dd_wire.specs.ParLines.{DealPar, Given, results, deal, ParFields, par_fields, par_of_results, MeansParOfDeal}
use Rattle.dd_wire.specs.PlayLines.{MeansAsked}
use Rattle.dd_wire.specs.Requests.{asked_as, object_of, wait_at}

-- what the fields of a request for par ask, or their first fault
abbrev pub MeansGiven : Given → ParFields → Result LineAsked Fault → Type 0
MeansGiven (results rows) fields meaning = meaning ≡ asked_as Par (par_of_results fields.first fields.vulnerable rows)
MeansGiven (deal text) fields meaning =
    (asked : Result DealPar Fault) × MeansParOfDeal fields.first fields.vulnerable text asked × (meaning ≡ asked_as ParOfDeal asked)

-- what the members of an object ask: par, or else what a job book takes too
abbrev pub MeansMembers : Members → Result LineAsked Fault → Type 0
MeansMembers members meaning =
    MatchOption (par_fields members)
    ((asked : Result Asked Fault) × MeansAsked members asked × (meaning ≡ asked_as Cards asked))
    (λ fields. MeansGiven fields.given fields meaning)

-- what a line means: its length is looked at first, then that it is a JSON object, then its wait, which asks for nothing here,
-- then the other members
abbrev pub Means : List ℕ → Result LineAsked Fault → Type 0
Means line meaning =
    MatchBool (nat_lt longest_line (length line)) (meaning ≡ Err LineTooLong)
    (MatchOption (object_of line) (meaning ≡ Err NotAnObject) (λ members.
    MatchOption (wait_at members) (meaning ≡ Err WrongField) (λ wait. MeansMembers members meaning)))
