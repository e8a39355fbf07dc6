use Rattle.std.proofs.Common.{◌≡◌, ◌∙◌, ap, sym, arith, Some}
use Rattle.std.specs.List.{position}
use Rattle.dd_book.specs.declared.call.Outcome.{Outcome}
use Rattle.dd_book.specs.declared.call.Outcome.TheVariants.{Spent, Stopped}
use Rattle.dd_book.specs.declared.part_counts.PartCounts.{PartCounts}
use Rattle.dd_book.specs.Counts.{counts_in, running_in, waiting_in}
use Rattle.dd_book.specs.Parts.{is_running, is_waiting, runs_by}
use Rattle.dd_book.specs.Jobs.{parts_of, stage_after}
use Rattle.dd_book.proofs.Counting.{counts-are, finish-ended, finish-spent, finish-stopped, finished, stage-there}
use Rattle.dd_book.proofs.jobs.Jobs.counts_after_finish.Goals as goal
use Rattle.dd_book.proofs.jobs.Jobs.counts_after_finish.Goals.{After-records}

-- the part of the job that the worker has
runs : (c : After-records) → position (runs_by c.args.worker c.args.claim) (parts_of c.in-Some.job.now.stage) ≡ Some c.in-Some-running.part
runs c = sym c.running.ensures ∙ c.in-Some-running.is

-- how many waited and ran
waited : (c : After-records) → c.args.counts.waiting ≡ waiting_in c.args.self.now
waited c = ap (λ (counts : PartCounts). counts.waiting) c.requires.now

ran : (c : After-records) → c.args.counts.running ≡ running_in c.args.self.now
ran c = ap (λ (counts : PartCounts). counts.running) c.requires.now

pub stopped-requires : goal.stopped-requires
stopped-requires c =
    let r = (goal.at.stopped-requires c).After-records in
    let left = finish-stopped c.args.self.now c.args.worker c.args.number c.args.claim c.in-Some-running.part c.in-Some.job.now c.in-Some.ensures.some (runs r) in
    (omega (arith, left.1, ran r), omega (arith, c.requires.room))

pub returns-in-Stopped : goal.returns-in-Stopped
returns-in-Stopped c =
    let r = (goal.at.returns-in-Stopped c).After-records in
    let left = finish-stopped c.args.self.now c.args.worker c.args.number c.args.claim c.in-Some-running.part c.in-Some.job.now c.in-Some.ensures.some (runs r) in
    counts-are c.stopped.result (finished c.args.self.now c.args.worker c.args.number c.args.claim Stopped)
    (omega (arith, left.0, waited r, c.stopped.ensures.waiting)) (omega (arith, left.1, ran r, c.stopped.ensures.running))
    ∙ ap (λ (o : Outcome). counts_in (finished c.args.self.now c.args.worker c.args.number c.args.claim o)) (sym c.in-Stopped.is)

pub without-requires : goal.without-requires
without-requires c =
    let r = (goal.at.without-requires c).After-records in
    let left = finish-spent c.args.self.now c.args.worker c.args.number c.args.claim c.in-Some-running.part c.in-Some.job.now c.in-Some.ensures.some (runs r) in
    (omega (arith, left is_waiting, waited r, c.counts.ensures.waiting), omega (arith, left is_running, ran r, c.counts.ensures.running))

pub returns-in-Spent : goal.returns-in-Spent
returns-in-Spent c =
    let r = (goal.at.returns-in-Spent c).After-records in
    let left = finish-spent c.args.self.now c.args.worker c.args.number c.args.claim c.in-Some-running.part c.in-Some.job.now c.in-Some.ensures.some (runs r) in
    counts-are c.without.result (finished c.args.self.now c.args.worker c.args.number c.args.claim Spent)
    (omega (arith, left is_waiting, waited r, c.counts.ensures.waiting, c.without.ensures.waiting)) (omega (arith, left is_running, ran r, c.counts.ensures.running, c.without.ensures.running))
    ∙ ap (λ (o : Outcome). counts_in (finished c.args.self.now c.args.worker c.args.number c.args.claim o)) (sym c.in-Spent.is)

pub ended-requires : goal.ended-requires
ended-requires c =
    let r = (goal.at.ended-requires c).After-records in
    let stage = stage-there (stage_after c.in-Some.job.now.asked (parts_of c.in-Some.job.now.stage) c.in-Some-running.part c.args.outcome.now) c.records.result c.records.ensures.recorded c.if-not-records.false in
    let left = finish-ended c.args.self.now c.args.worker c.args.number c.args.claim c.in-Some-running.part c.in-Some.job.now c.in-Some.ensures.some (runs r)
    c.args.outcome.now stage.0 c.in_default-outcome.not-Stopped c.in_default-outcome.not-Spent c.records.ensures.own stage.1 in
    omega (arith, left.1, ran r)

pub returns-in_default-outcome : goal.returns-in_default-outcome
returns-in_default-outcome c =
    let r = (goal.at.returns-in_default-outcome c).After-records in
    let stage = stage-there (stage_after c.in-Some.job.now.asked (parts_of c.in-Some.job.now.stage) c.in-Some-running.part c.args.outcome.now) c.records.result c.records.ensures.recorded c.if-not-records.false in
    let left = finish-ended c.args.self.now c.args.worker c.args.number c.args.claim c.in-Some-running.part c.in-Some.job.now c.in-Some.ensures.some (runs r)
    c.args.outcome.now stage.0 c.in_default-outcome.not-Stopped c.in_default-outcome.not-Spent c.records.ensures.own stage.1 in
    counts-are c.ended.result (finished c.args.self.now c.args.worker c.args.number c.args.claim c.args.outcome.now)
    (omega (arith, left.0, waited r, c.ended.ensures.waiting)) (omega (arith, left.1, ran r, c.ended.ensures.running))
