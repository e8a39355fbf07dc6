use Rattle.std.proofs.Common.{◌≡◌, ◌⊎◌, ℕ, Bool, true, inl, inr, Result, Ok, Err, IfOk}
use Rattle.std.specs.Duration.{as_nanos}
use Rattle.dd_book.specs.declared.call.Reply.{Reply}
use Rattle.dd_book.specs.Limits.{LimitsOf}
use Rattle.dd_desk.specs.declared.fault.DeskFault.{DeskFault}
use Rattle.dd_desk.specs.Events.{replay}
use Rattle.dd_desk.specs.Receipts.{PassOf}
use Rattle.dd_desk.specs.Replies.{EndsFetch, IsToldEnd}
use Rattle.dd_desk.specs.Sightings.{CutsWait, cut-wait}
use Rattle.dd_desk.proofs.desk.Desk.fetch_within.Goals as goal

-- the time to wait was over
late : (nanoseconds : ℕ) (over : Bool) (result : Result Reply DeskFault) → over ≡ true → IfOk result (λ reply. EndsFetch reply ⊎ CutsWait nanoseconds)
late nanoseconds over (Ok reply) is = inr (cut-wait nanoseconds over over (inl is))
late nanoseconds over (Err fault) is = tt

-- it need not wait: the job has ended, or the book was shut
early : (nanoseconds : ℕ) (limits : LimitsOf) (before after : PassOf) (job : ℕ) (result : Result Reply DeskFault) → IsToldEnd limits before job result after
    → IfOk result (λ reply. EndsFetch reply ⊎ CutsWait nanoseconds)
early nanoseconds limits before after job (Ok reply) told =
    elim told.ends [
      | inl ends ↦ inl ends
      | inr shut ↦ inr (let book = replay limits told.answered.journal in cut-wait nanoseconds book.shut book.shut (inr shut))
    ]
early nanoseconds limits before after job (Err fault) told = tt

pub returns-then-timed_out-clause-cut : goal.returns-then-timed_out-clause-cut
returns-then-timed_out-clause-cut g c = late (as_nanos c.args.most) c.timed_out.result c.answer_late-reply.result c.if-timed_out.true

pub returns-else-timed_out-clause-cut : goal.returns-else-timed_out-clause-cut
returns-else-timed_out-clause-cut g c =
    early (as_nanos c.args.most) g.J.Naming.limits c.make_ready.new.self c.answer_fetch-reply.new.pass c.args.job c.answer_fetch-reply.result c.answer_fetch-reply.ensures
