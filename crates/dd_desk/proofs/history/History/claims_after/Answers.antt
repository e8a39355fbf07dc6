use Rattle.std.proofs.Common.{◌≡◌, ◌+◌, ◌-◌, ℕ, Option, Some, None, refl, sym, ap, ◌∙◌, subst, arith}
use Rattle.dd_book.specs.declared.call.Call.{Call}
use Rattle.dd_book.specs.declared.call.Call.TheVariants.{Claim}
use Rattle.dd_book.specs.declared.part_counts.PartCounts.{PartCounts}
use Rattle.dd_book.specs.Calls.{BookOf, after, book_claimed}
use Rattle.dd_book.specs.Counts.{waiting_in}
use Rattle.dd_book.specs.Jobs.{Turn, next_turn}
use Rattle.dd_book.proofs.CallerLemmas.{idle-same, turn-counts}
use Rattle.dd_desk.proofs.history.History.claims_after.Goals as goal

-- as many claims more as parts wait less
more : (book : BookOf) (worker claims waited waits : ℕ) → claims ≡ book.claims → waited ≡ waiting_in book.jobs → waits ≡ waiting_in (after book (Claim worker)).jobs
    → claims + (waited - waits) ≡ (after book (Claim worker)).claims
more book worker claims waited waits so_far before now = go (next_turn book.jobs) refl
  where
    go : (o : Option Turn) → next_turn book.jobs ≡ o → claims + (waited - waits) ≡ (after book (Claim worker)).claims
    go None is =
        let same = idle-same book worker is in
        omega (arith, so_far, before, now, ap (λ (b : BookOf). waiting_in b.jobs) same, ap (λ (b : BookOf). b.claims) same)
    go (Some t) is =
        let counts = turn-counts book worker t is in
        let one : (after book (Claim worker)).claims ≡ book.claims + 1 = ap (λ (o : Option Turn). (book_claimed book worker o).claims) is in
        omega (arith, so_far, before, now, counts.0, one)

pub returns-in-Claim : goal.returns-in-Claim
returns-in-Claim c =
    let self = c.args.self.now in
    let worker = c.in-Claim.worker in
    let now : c.args.waiting ≡ waiting_in (after self.book (Claim worker)).jobs = c.requires.waiting ∙ ap (λ (k : Call). waiting_in (after self.book k).jobs) c.in-Claim.is in
    let step = more self.book worker self.counted.claims self.counted.parts.waiting c.args.waiting self.counts.claims (ap (λ (p : PartCounts). p.waiting) self.counts.parts) now in
    subst (λ (k : Call). self.counted.claims + c.saturating_sub.result ≡ (after self.book k).claims) (sym c.in-Claim.is)
    (ap (λ n. self.counted.claims + n) c.saturating_sub.ensures ∙ step)
