-- To be believed: what a run leaves.
use Rattle.std.specs.Prelude.{◌≡◌, ◌≤◌, List, length, true}
use Rattle.dd_book.specs.Limits.{LimitsOf}
use Rattle.dd_desk.specs.Answers.{AnswersAreRight}
use Rattle.dd_desk.specs.Events.{AnswersAreOwn, CallsAreOwn, EventOf, IsLegal}
use Rattle.dd_desk.specs.Receipts.{PassOf}
use Rattle.dd_desk.specs.Reserve.{HasReserve}
use Rattle.dd_desk.specs.Closing.{numbers_of, by_these, AllTheirs}
use Rattle.dd_server.specs.Callers.{AreCallers}
use Rattle.dd_server.specs.declared.terms.Terms.{Terms}

-- The journal of a desk of these limits has at most so many events as they allow, with room for what is reserved after it, and is
-- one that one thread could have made; each call is by the caller under whose number it stands; all that callers were told of a job is
-- of what was submitted under its number, and each answer, table and trace is that of exhaustive play for that; there are at most as many passes as the limits allow; the receipts of each of them are the events of its caller, in
-- order and at their places; and each event's caller is one of them.
pub record IsHistory (limits : LimitsOf) (journal : List EventOf) (passes : List PassOf) : Type 0 where
  pub within : length journal ≤ limits.events
  pub reserve : HasReserve limits journal
  pub legal : IsLegal limits journal
  pub own : CallsAreOwn journal
  pub answers : AnswersAreOwn journal
  pub right : AnswersAreRight journal
  pub given : length passes ≤ limits.passes
  pub theirs : AllTheirs journal passes
  pub callers : by_these (numbers_of passes) journal ≡ true

-- A run may have left this journal: it is a history with some passes, of which one may be the run's own, and each other one is a
-- worker's or a client's, as the run was asked for.
pub record IsJournalOfRun (limits : LimitsOf) (terms : Terms) (journal : List EventOf) : Type 0 where
  pub passes : List PassOf
  pub history : IsHistory limits journal passes
  pub callers : AreCallers limits terms passes

-- a run left a journal, and of this something was made that is known so
abbrev pub IsKept : LimitsOf → Terms → (List EventOf → Type 0) → Type 0
IsKept limits terms made_of = (journal : List EventOf) × IsJournalOfRun limits terms journal × made_of journal
