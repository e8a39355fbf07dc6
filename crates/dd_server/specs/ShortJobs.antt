-- What a session knows of the pass by which it works on short jobs of its own.
use Rattle.std.specs.Prelude.{ℕ, Option, Result}
use Rattle.dd_book.specs.declared.call.Reply.{Reply}
use Rattle.dd_book.specs.Limits.{LimitsOf}
use Rattle.dd_desk.specs.declared.fault.DeskFault.{DeskFault}
use Rattle.dd_desk.specs.Receipts.{PassOf}
use Rattle.dd_desk.specs.Replies.{MayClaim}
use Rattle.dd_work.specs.Rounds.{AreRounds, Works}

-- rounds that may go on: where the pass gains more of them, all that it has told are rounds
abbrev pub MayFollow : Option ℕ → PassOf → Type 0
MayFollow budget pass = (after : PassOf) → Works budget pass after → AreRounds budget after.number after.receipts

-- such a pass may have claimed a part since, and was answered so
pub record HasClaimed (limits : LimitsOf) (budget : Option ℕ) (claim : Option Reply) (pass : PassOf) : Type 0 where
  pub before : PassOf
  pub follows : MayFollow budget before
  pub told : Result Reply DeskFault
  pub claims : MayClaim limits before told claim pass
