use Rattle.std.proofs.Common.{◌≡◌, ◌∙◌, ap, sym, arith}
use Rattle.dd_book.specs.declared.call.Call.{Call}
use Rattle.dd_book.specs.declared.call.Call.TheVariants as call
use Rattle.dd_book.specs.declared.part_counts.PartCounts.{PartCounts}
use Rattle.dd_book.specs.Calls.{BookOf, after}
use Rattle.dd_book.specs.Counts.{counts_in, running_in, waiting_in}
use Rattle.dd_book.proofs.Awaits.{none-next, turn-waits}
use Rattle.dd_book.proofs.Counting.{counts-are}
use Rattle.dd_book.proofs.CountsAfter.{idle-same, submit-counts, turn-counts}
use Rattle.dd_book.proofs.book.Book.counts_after.Goals as goal

pub claimed-requires : goal.claimed-requires
claimed-requires c =
    let waited : c.args.counts.waiting ≡ waiting_in c.args.self.now.jobs = ap (λ (p : PartCounts). p.waiting) c.requires.now in
    (omega (arith, c.if-counts-gt0.true), omega (arith, c.requires.room))

pub returns-then-counts-gt0 : goal.returns-then-counts-gt0
returns-then-counts-gt0 c =
    let waited : c.args.counts.waiting ≡ waiting_in c.args.self.now.jobs = ap (λ (p : PartCounts). p.waiting) c.requires.now in
    let ran : c.args.counts.running ≡ running_in c.args.self.now.jobs = ap (λ (p : PartCounts). p.running) c.requires.now in
    let t = turn-waits c.args.self.now (omega (arith, c.if-counts-gt0.true, waited)) in
    let counts = turn-counts c.args.self.now c.in-Claim.worker t.0 t.1 in
    counts-are c.claimed.result (after c.args.self.now (call.Claim c.in-Claim.worker)).jobs
    (omega (arith, counts.0, c.claimed.ensures.waiting)) (omega (arith, counts.1, c.claimed.ensures.running))
    ∙ ap (λ (k : Call). counts_in (after c.args.self.now k).jobs) (sym c.in-Claim.is)

pub returns-else-counts-gt0 : goal.returns-else-counts-gt0
returns-else-counts-gt0 c =
    let waited : c.args.counts.waiting ≡ waiting_in c.args.self.now.jobs = ap (λ (p : PartCounts). p.waiting) c.requires.now in
    let same = idle-same c.args.self.now c.in-Claim.worker (none-next c.args.self.now (omega (arith, c.if-counts-gt0.false, waited))) in
    c.requires.now ∙ ap (λ (b : BookOf). counts_in b.jobs) (sym same)
    ∙ ap (λ (k : Call). counts_in (after c.args.self.now k).jobs) (sym c.in-Claim.is)

pub returns-else-refuses : goal.returns-else-refuses
returns-else-refuses c =
    let counts = submit-counts c.args.self.now c.in-Submit.caller c.in-Submit.asked (sym c.refuses.ensures ∙ c.if-refuses.false) in
    let waited : c.args.counts.waiting ≡ waiting_in c.args.self.now.jobs = ap (λ (p : PartCounts). p.waiting) c.requires.now in
    let ran : c.args.counts.running ≡ running_in c.args.self.now.jobs = ap (λ (p : PartCounts). p.running) c.requires.now in
    counts-are c.with_job.result (after c.args.self.now (call.Submit c.in-Submit.caller c.in-Submit.asked)).jobs
    (omega (arith, counts.0, c.with_job.ensures.waiting)) (omega (arith, counts.1, c.with_job.ensures.running))
    ∙ ap (λ (k : Call). counts_in (after c.args.self.now k).jobs) (sym c.in-Submit.is)
