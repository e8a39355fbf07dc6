-- To be believed: what a session that ends leaves behind: no job of its own that is still worked on.
use Rattle.std.specs.Prelude.{◌≡◌, ◌⊎◌, ℕ, suc, List, [], ◌∷◌, ◌++◌, Option, None, Some, Contains, drop}
use Rattle.dd_book.specs.declared.call.Call.TheVariants as call
use Rattle.dd_book.specs.declared.call.Reply.{Reply}
use Rattle.dd_book.specs.Limits.{LimitsOf}
use Rattle.dd_desk.specs.declared.fault.DeskFault.{DeskFault}
use Rattle.dd_desk.specs.Looks.{FindsNoEnd, SeesEnd}
use Rattle.dd_desk.specs.Receipts.{PassOf, ReceiptOf, pass_of}
use Rattle.dd_desk.specs.Sightings.{RefusesCall}
use Rattle.dd_wire.specs.declared.want.Want.{Want}
use Rattle.dd_wire.specs.declared.want.Want.TheVariants.{Submit, Cancel, Fetch, Stop}
use Rattle.dd_session.specs.Ports.{DeskPortOf, Exchange, PortOf, Gains, told_in}
use Rattle.dd_session.specs.Serving.{new_job}

-- a job that may be there, as a list
abbrev pub listed : Option ℕ → List ℕ
listed None = []
listed (Some job) = job ∷ []

-- the job that a call made, if it made one
abbrev pub made_by : Want → Reply → List ℕ
made_by (Submit asked) reply = listed (new_job reply)
made_by (Cancel job) reply = []
made_by (Fetch job) reply = []
made_by Stop reply = []

-- the jobs that these calls made, in order
abbrev pub own_jobs : List Exchange → List ℕ
own_jobs [] = []
own_jobs (told ∷ rest) = made_by told.0 told.1 ++ own_jobs rest

-- what is seen of a job of this number when it is given up: it has ended, or its cancel was refused
pub data JobSight : Type 0 where
  Ended : ℕ → JobSight
  Refused : ℕ → JobSight

-- These jobs are given up, in order: each was seen to have ended, and no call is made; or it is cancelled, which is told; or its cancel
-- was seen to be refused, which is counted. No other call is made.
abbrev pub GivesUp : (JobSight → Type 0) → List ℕ → List Exchange → ℕ → Type 0
GivesUp saw [] news refused = (news ≡ []) × (refused ≡ 0)
GivesUp saw (job ∷ jobs) news refused =
    (saw (Ended job) × GivesUp saw jobs news refused)
    ⊎ ((reply : Reply) × (later : List Exchange) × FindsNoEnd job reply × (news ≡ (Cancel job, reply) ∷ later) × GivesUp saw jobs later refused)
    ⊎ ((others : ℕ) × (refused ≡ suc others) × saw (Refused job) × GivesUp saw jobs news others)

-- a session leaves: the jobs that its port made are given up, and nothing else is asked
abbrev pub Leaves : (JobSight → Type 0) → PortOf → PortOf → Type 0
Leaves saw before after =
    (news : List Exchange) × (refused : ℕ) × GivesUp saw (own_jobs before.told) news refused × Gains before news refused after

-- the port comes to a state of which this holds, and then the session leaves
abbrev pub ThenLeaves : (PortOf → Type 0) → (JobSight → Type 0) → PortOf → Type 0
ThenLeaves serves saw after = (between : PortOf) × serves between × Leaves saw between after

-- ---- over a desk

-- A desk of these limits showed to this pass that its job has ended, when it had the first so many of its receipts: in the journal
-- these stood, and one of them, from this place on, is that of the job.
pub record SawEnd (limits : LimitsOf) (from : ℕ) (pass : PassOf) (job : ℕ) : Type 0 where
  pub seen : PassOf
  pub later : List ReceiptOf
  pub same : pass ≡ pass_of seen.number (seen.receipts ++ later)
  pub made : Contains (own_jobs (told_in (drop from seen.receipts))) job
  pub sees : SeesEnd limits seen job

-- a desk of these limits refused the caller of this number the cancel of this job
abbrev pub RefusedCancel : LimitsOf → ℕ → ℕ → Type 0
RefusedCancel limits number job = (fault : DeskFault) × RefusesCall limits number (call.Cancel number job) fault

-- what a desk of these limits showed to this pass, from so many of its receipts on, of a job that it gives up
abbrev pub SawAt : LimitsOf → ℕ → PassOf → JobSight → Type 0
SawAt limits from pass (Ended job) = SawEnd limits from pass job
SawAt limits from pass (Refused job) = RefusedCancel limits pass.number job

-- and to the pass of a port, which has seen nothing where it has none
abbrev pub SawBy : LimitsOf → Option DeskPortOf → JobSight → Type 0
SawBy limits None sight = ⊥
SawBy limits (Some port) sight = SawAt limits port.before port.pass sight
