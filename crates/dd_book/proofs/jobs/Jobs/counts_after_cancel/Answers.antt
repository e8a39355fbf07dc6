use Rattle.std.proofs.Common.{◌≡◌, ◌∙◌, ap, sym, arith, Some}
use Rattle.std.specs.Prelude.{Option}
use Rattle.dd_book.specs.declared.part_counts.PartCounts.{PartCounts}
use Rattle.dd_book.specs.Calls.{jobs_cancelled}
use Rattle.dd_book.specs.Counts.{counts_in, running_in, waiting_in}
use Rattle.dd_book.specs.Parts.{is_running, is_waiting}
use Rattle.dd_book.specs.Jobs.{JobOf, own_job}
use Rattle.dd_book.proofs.Counting.{cancel-counts, counts-are}
use Rattle.dd_book.proofs.Turns.{own_job-is}
use Rattle.dd_book.proofs.jobs.Jobs.counts_after_cancel.Goals as goal
use Rattle.dd_book.proofs.jobs.Jobs.counts_after_cancel.Goals.{After-counts}

-- the job is the caller's
own : (c : After-counts) → own_job c.args.self.now c.args.caller c.args.number ≡ Some c.in-Some.job.now
own c = own_job-is c.args.self.now c.args.caller c.args.number c.in-Some.job.now c.in-Some.ensures.some (sym c.owner.ensures ∙ c.if-owner-caller.true)

-- how many waited and ran
waited : (c : After-counts) → c.args.counts.waiting ≡ waiting_in c.args.self.now
waited c = ap (λ (counts : PartCounts). counts.waiting) c.requires

ran : (c : After-counts) → c.args.counts.running ≡ running_in c.args.self.now
ran c = ap (λ (counts : PartCounts). counts.running) c.requires

pub without-requires : goal.without-requires
without-requires c =
    let r = (goal.at.without-requires c).After-counts in
    let waits = cancel-counts is_waiting c.args.self.now c.args.caller c.args.number c.in-Some.job.now (own r) in
    let runs = cancel-counts is_running c.args.self.now c.args.caller c.args.number c.in-Some.job.now (own r) in
    (omega (arith, waits, waited r, c.counts.ensures.waiting), omega (arith, runs, ran r, c.counts.ensures.running))

pub returns-in-Some : goal.returns-in-Some
returns-in-Some c =
    let r = (goal.at.returns-in-Some c).After-counts in
    let waits = cancel-counts is_waiting c.args.self.now c.args.caller c.args.number c.in-Some.job.now (own r) in
    let runs = cancel-counts is_running c.args.self.now c.args.caller c.args.number c.in-Some.job.now (own r) in
    counts-are c.without.result (jobs_cancelled c.args.self.now c.args.number (Some c.in-Some.job.now))
    (omega (arith, waits, waited r, c.counts.ensures.waiting, c.without.ensures.waiting)) (omega (arith, runs, ran r, c.counts.ensures.running, c.without.ensures.running))
    ∙ ap (λ (o : Option JobOf). counts_in (jobs_cancelled c.args.self.now c.args.number o)) (sym (own r))
