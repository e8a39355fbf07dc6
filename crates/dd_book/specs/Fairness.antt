-- To be believed: claims go round the owners, and newcomers come last.
use Rattle.std.specs.Prelude.{◌≡◌, ℕ, ◌&&◌, Bool, true, false, List, [], ◌∷◌, nat_eq, Option, Some, option_map, unwrap_or}
use Rattle.std.specs.List.{list_any}
use Rattle.dd_book.specs.declared.call.Call.{Call}
use Rattle.dd_book.specs.declared.call.Call.TheVariants as call
use Rattle.dd_book.specs.Limits.{LimitsOf}
use Rattle.dd_book.specs.Jobs.{JobOf, Turn, has_job, has_waiting, job_at, next_turn, owner_at}
use Rattle.dd_book.specs.Calls.{BookOf, after, empty_book, run}

-- whose part a claim would take, if one waits
abbrev pub next_owner : BookOf → Option ℕ
next_owner book = option_map (λ (turn : Turn). turn.job.owner) (next_turn book.jobs)

-- a part of this owner's waits
abbrev pub owner_waits : ℕ → BookOf → Bool
owner_waits owner book =
    list_any (λ (job : JobOf). nat_eq job.owner owner && has_waiting job) book.jobs

abbrev pub is_claim : Call → Bool
is_claim (call.Submit caller asked) = false
is_claim (call.Claim worker) = true
is_claim (call.Finish worker number claim outcome) = false
is_claim (call.Cancel caller number) = false
is_claim (call.Fetch caller number) = false
is_claim call.Shut = false

-- before and after each of these calls a part of this owner's waits, and no claim takes one
unfoldable pub IsPassedOver : ℕ → BookOf → List Call → Type 0
IsPassedOver owner book [] = owner_waits owner book ≡ true
IsPassedOver owner book (c ∷ cs) =
    (owner_waits owner book ≡ true) × (is_claim c ≡ true → next_owner book ≡ Some owner → ⊥)
    × IsPassedOver owner (after book c) cs

-- once a claim has taken a part of one owner's, no claim takes another one of it for as long as a
-- part of another owner's waits and is passed over
abbrev pub ClaimsGoRound : Type 0
ClaimsGoRound =
    (limits : LimitsOf) (first later : List Call) (worker one other : ℕ) → (one ≡ other → ⊥)
    → next_owner (run (empty_book limits) first) ≡ Some one
    → IsPassedOver other (after (run (empty_book limits) first) (call.Claim worker)) later
    → next_owner (run (after (run (empty_book limits) first) (call.Claim worker)) later) ≡ Some one
    → ⊥

-- a part of the job of this number waits
abbrev pub job_waits : ℕ → BookOf → Bool
job_waits number book = unwrap_or (option_map has_waiting (job_at book.jobs number)) false

-- before and after each of these calls a part of this job waits, and no claim takes a part of its owner's
unfoldable pub IsHeldBack : ℕ → BookOf → List Call → Type 0
IsHeldBack number book [] = job_waits number book ≡ true
IsHeldBack number book (c ∷ cs) =
    (job_waits number book ≡ true)
    × (is_claim c ≡ true → next_owner book ≡ owner_at book.jobs number → ⊥)
    × IsHeldBack number (after book c) cs

-- of a caller that had no job yet when another's job waited no claim takes a part, for as long as that job waits and its owner
-- is passed over
abbrev pub NewcomersComeLast : Type 0
NewcomersComeLast =
    (limits : LimitsOf) (first later : List Call) (number late : ℕ)
    → has_job late (run (empty_book limits) first).jobs ≡ false
    → IsHeldBack number (run (empty_book limits) first) later
    → next_owner (run (run (empty_book limits) first) later) ≡ Some late
    → ⊥
