-- To be believed: what a port tells of the book behind it.
use Rattle.std.specs.Prelude.{◌≡◌, ℕ, zero, suc, Bool, true, false, List, [], ◌∷◌, ◌++◌, length, drop, ◌-◌, Option, None, Some, option_map, slice_get, Result, Ok, Err}
use Rattle.dd_book.specs.declared.call.Call.{Call}
use Rattle.dd_book.specs.declared.call.Reply.{Reply}
use Rattle.dd_book.specs.Limits.{LimitsOf}
use Rattle.dd_desk.specs.declared.fault.DeskFault.{DeskFault}
use Rattle.dd_desk.specs.Events.{IsBy}
use Rattle.dd_desk.specs.Faults.{IsOfCall}
use Rattle.dd_desk.specs.Receipts.{ReceiptOf, PassOf}
use Rattle.dd_desk.specs.Sightings.{HasNoPassLeft, RefusesCall}
use Rattle.dd_lines.specs.CountedDevices.{one_more}
use Rattle.dd_wire.specs.declared.want.Want.{Want}

-- a call that was made over a port, with its reply
abbrev pub Exchange : Type 0
Exchange = Want × Reply

-- what a port tells: the calls that were made over it, in order, and how many it refused
pub record PortOf : Type 0 where
  pub told : List Exchange
  pub refusals : ℕ

abbrev pub port_of : List Exchange → ℕ → PortOf
port_of told refusals = record { told = told; refusals = refusals }

-- The port before and after it is asked: the call was made and its reply is told; or it was refused, since the journal is
-- full or memory ran out, and that is counted.
abbrev pub Tells : PortOf → Want → Result Reply DeskFault → PortOf → Type 0
Tells before want (Ok reply) after = after ≡ port_of (before.told ++ (want, reply) ∷ []) before.refusals
Tells before want (Err fault) after = IsOfCall fault × (after ≡ port_of before.told (one_more before.refusals))

-- the count of so many more; at its greatest value it stays
abbrev pub count_more : ℕ → ℕ → ℕ
count_more count zero = count
count_more count (suc more) = count_more (one_more count) more

-- the port before and after these calls were told, in order, and so many were refused
abbrev pub Gains : PortOf → List Exchange → ℕ → PortOf → Type 0
Gains before news refused after = after ≡ port_of (before.told ++ news) (count_more before.refusals refused)

-- ---- without leave

-- none of these calls wants a stop
abbrev pub AreNoStops : List Exchange → Type 0
AreNoStops [] = Unit {0}
AreNoStops (told ∷ rest) = (told.0 ≡ Want.Stop → ⊥) × AreNoStops rest

-- what was told before, and then no call that wants a stop
pub record AsksNoStop (before after : List Exchange) : Type 0 where
  pub gained : List Exchange
  pub told : after ≡ before ++ gained
  pub no_stops : AreNoStops gained

-- ---- over a desk

-- the call that makes a want known to the book, by this caller
abbrev pub call_by : ℕ → Want → Call
call_by caller (Want.Submit asked) = Call.Submit caller asked
call_by caller (Want.Cancel job) = Call.Cancel caller job
call_by caller (Want.Fetch job) = Call.Fetch caller job
call_by caller Want.Stop = Call.Shut

-- A desk of these limits refused the caller of this number the call that makes a want known. Who has no number was refused since all
-- passes were given.
abbrev pub RefusesWant : LimitsOf → Option ℕ → Want → DeskFault → Type 0
RefusesWant limits None want fault = HasNoPassLeft limits
RefusesWant limits (Some number) want fault = RefusesCall limits number (call_by number want) fault

-- what a call with this reply tells: its want, whoever called; a worker's calls make no want known
abbrev pub told_of : Call → Reply → List Exchange
told_of (Call.Submit caller asked) reply = (Want.Submit asked, reply) ∷ []
told_of (Call.Claim worker) reply = []
told_of (Call.Finish worker job claim outcome) reply = []
told_of (Call.Cancel caller job) reply = (Want.Cancel job, reply) ∷ []
told_of (Call.Fetch caller job) reply = (Want.Fetch job, reply) ∷ []
told_of Call.Shut reply = (Want.Stop, reply) ∷ []

-- what receipts tell, in order
abbrev pub told_in : List ReceiptOf → List Exchange
told_in [] = []
told_in (r ∷ rs) = told_of r.call r.reply ++ told_in rs

-- a client's call: it makes a want known
abbrev pub is_clients : Call → Bool
is_clients (Call.Submit caller asked) = true
is_clients (Call.Claim worker) = false
is_clients (Call.Finish worker job claim outcome) = false
is_clients (Call.Cancel caller job) = true
is_clients (Call.Fetch caller job) = true
is_clients Call.Shut = true

-- receipts of the calls of the client of this number, and of no worker's
abbrev pub AreClients : ℕ → List ReceiptOf → Type 0
AreClients number [] = Unit {0}
AreClients number (r ∷ rs) = (is_clients r.call ≡ true) × IsBy number r.call × AreClients number rs

-- a port over a desk: its pass, how many receipts this had when the port was made, how many calls were refused, and how many
-- workers the desk has
pub record DeskPortOf : Type 0 where
  pub pass : PassOf
  pub before : ℕ
  pub refusals : ℕ
  pub workers : ℕ

-- such a port that has just been made, to a desk with so many workers, after so many refusals
abbrev pub new_port : ℕ → ℕ → PassOf → DeskPortOf
new_port workers refusals pass = record { pass = pass; before = length pass.receipts; refusals = refusals; workers = workers }

-- what it tells: the receipts that the pass has gained in the port
abbrev pub told_at : DeskPortOf → List Exchange
told_at port = told_in (drop port.before port.pass.receipts)

-- such a port when it has refused one call more
abbrev pub refused : DeskPortOf → DeskPortOf
refused port = record port { refusals = one_more port.refusals }

-- the place in the journal of the last event of its pass
abbrev pub last_place : DeskPortOf → Option ℕ
last_place port = option_map (λ (r : ReceiptOf). r.place) (slice_get port.pass.receipts (length port.pass.receipts - 1))

-- ---- over a desk that gives the pass at the first call

-- such a port: the port over the desk, if it has its pass; how many calls were refused before; and how many workers the desk has
pub record LatePortOf : Type 0 where
  pub port : Option DeskPortOf
  pub refused : ℕ
  pub workers : ℕ

-- such a port that has just been made: it has no pass
abbrev pub new_late_port : ℕ → LatePortOf
new_late_port workers = record { port = None; refused = 0; workers = workers }

-- what a port tells that may be there: nothing, if it isn't
abbrev pub told_by : Option DeskPortOf → List Exchange
told_by None = []
told_by (Some port) = told_at port

-- how many calls were refused, where so many were before the port was there
abbrev pub refusals_by : ℕ → Option DeskPortOf → ℕ
refusals_by before None = before
refusals_by before (Some port) = port.refusals

-- the receipts of its pass
abbrev pub receipts_by : Option DeskPortOf → List ReceiptOf
receipts_by None = []
receipts_by (Some port) = port.pass.receipts

-- how many receipts its pass had when it was made
abbrev pub before_by : Option DeskPortOf → ℕ
before_by None = 0
before_by (Some port) = port.before

-- its pass, if there is one
abbrev pub pass_by : Option DeskPortOf → Option PassOf
pass_by port = option_map (λ (p : DeskPortOf). p.pass) port

-- the number of its pass
abbrev pub number_of : Option DeskPortOf → Option ℕ
number_of port = option_map (λ (p : DeskPortOf). p.pass.number) port
