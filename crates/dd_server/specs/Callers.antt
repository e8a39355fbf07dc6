-- To be believed: whose calls stand in the journal of a run.
use Rattle.std.specs.Prelude.{◌≡◌, ◌≤◌, ◌⊎◌, ℕ, List, [], All, length, true, false}
use Rattle.std.specs.List.{list_all}
use Rattle.dd_book.specs.Limits.{LimitsOf}
use Rattle.dd_desk.specs.Receipts.{PassOf, ReceiptOf, is_shut}
use Rattle.dd_session.specs.Leaving.{SawAt, ThenLeaves}
use Rattle.dd_session.specs.Ports.{AreClients, AsksNoStop, port_of, told_in}
use Rattle.dd_session.specs.Sockets.{ServesMessages}
use Rattle.dd_work.specs.Rounds.{AreRounds}
use Rattle.dd_server.specs.declared.terms.Terms.{Terms}

-- one receipt at most, and that of a shut
abbrev pub ShutsOnce : List ReceiptOf → Type 0
ShutsOnce receipts = (length receipts ≤ 1) × (list_all (λ (r : ReceiptOf). is_shut r.call) receipts ≡ true)

-- The pass of a client. Its calls are those that some lines want, or messages, in order and with nothing between; each reply to
-- them stands in the reply to its line, in the manner that was asked for; and then the jobs that it made were given up. Without
-- leave it asked for no stop.
pub record IsClients (limits : LimitsOf) (terms : Terms) (pass : PassOf) : Type 0 where
  pub calls : AreClients pass.number pass.receipts
  pub refusals : ℕ
  pub asked : ThenLeaves (ServesMessages terms.manner (port_of [] 0)) (SawAt limits 0 pass) (port_of (told_in pass.receipts) refusals)
  pub leave : terms.manner.allow_stop ≡ false → AsksNoStop [] (told_in pass.receipts)

-- the pass of a worker, with rounds of a claim and its finish, within the budget; or of a client
abbrev pub IsWorkersOrClients : LimitsOf → Terms → PassOf → Type 0
IsWorkersOrClients limits terms pass = AreRounds terms.budget pass.number pass.receipts ⊎ IsClients limits terms pass

-- Whose pass it is: the run's own, which has this number, and by which it shut the book once; a worker's; or a client's.
abbrev pub IsCallers : LimitsOf → Terms → ℕ → PassOf → Type 0
IsCallers limits terms own pass = ((pass.number ≡ own) × ShutsOnce pass.receipts) ⊎ IsWorkersOrClients limits terms pass

-- The passes of a run: the pass of one number may be its own, and each other one is a worker's or a client's.
abbrev pub AreCallers : LimitsOf → Terms → List PassOf → Type 0
AreCallers limits terms passes = (own : ℕ) × All (IsCallers limits terms own) passes
