-- What a session that ends leaves behind at a desk.
use Rattle.std.specs.Prelude.{◌≡◌, ℕ, List, ◌++◌}
use Rattle.dd_book.specs.Limits.{LimitsOf}
use Rattle.dd_desk.specs.Looks.{SeesEnd}
use Rattle.dd_desk.specs.Receipts.{PassOf, ReceiptOf}
use Rattle.dd_session.specs.Leaving.{GivesUp, JobSight, Ended, Refused, RefusedCancel}
use Rattle.dd_session.specs.Ports.{AreClients, count_more, told_in}

-- what a desk of these limits showed to this pass of a job that it gives up
abbrev pub SeesAt : LimitsOf → PassOf → JobSight → Type 0
SeesAt limits pass (Ended job) = SeesEnd limits pass job
SeesAt limits pass (Refused job) = RefusedCancel limits pass.number job

-- a pass of a desk of these limits gives up these jobs: what its new receipts tell, and a count of refusals before and after
pub record GivesUpAt (limits : LimitsOf) (jobs : List ℕ) (before : PassOf) (count : ℕ) (after : PassOf) (counted : ℕ) : Type 0 where
  pub number : after.number ≡ before.number
  pub gained : List ReceiptOf
  pub receipts : after.receipts ≡ before.receipts ++ gained
  pub clients : AreClients before.number gained
  pub refused : ℕ
  pub gives_up : GivesUp (SeesAt limits before) jobs (told_in gained) refused
  pub counts : counted ≡ count_more count refused
