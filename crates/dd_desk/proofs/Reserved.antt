-- What is reserved after a journal, and whether it has room for one event more.
use Rattle.std.proofs.Common.{◌≡◌, ℕ, ◌+◌, ◌*◌, ◌-◌, ◌<◌, ◌≤◌, max, Bool, true, false, cond, refl, sym, ap, ◌∙◌, subst, arith, List, [], ◌∷◌, ◌++◌, length, Option, Some, None}
use Rattle.std.proofs.lemmas.List.Sums.{sum_by_push}
use Rattle.dd_book.specs.Limits.{LimitsOf}
use Rattle.dd_book.specs.declared.call.Call.{Call}
use Rattle.dd_book.specs.declared.call.Call.TheVariants.{Submit, Claim, Finish, Cancel, Fetch, Shut}
use Rattle.dd_book.specs.declared.call.Reply.TheVariants as reply
use Rattle.dd_request.specs.declared.asked.Asked.{Asked}
use Rattle.dd_request.specs.declared.asked.Asked.TheVariants.{Solve, Table, Target, Play}
use Rattle.std.specs.Option.{is_some}
use Rattle.dd_book.specs.Jobs.{Turn, first_turn, new_job, next_turn}
use Rattle.dd_book.specs.Calls.{BookOf, IsIdle, after, book_claimed, claim_told, claimed, empty_book, refusal_of, reply_of, run, with_jobs}
use Rattle.dd_book.specs.Counts.{counts_in, running_in, waiting_in}
use Rattle.dd_desk.specs.declared.counted.Counted.{Counted}
use Rattle.dd_desk.specs.Counted.{IsCounted, IsCountedAfter, reserved_by}
use Rattle.dd_desk.specs.Events.{EventOf, event, replay}
use Rattle.dd_desk.specs.Reserve.{HasReserve, HasRoom, finishes_in, is_finish, journal_after, reserved, reserved_in, untold}
use Rattle.dd_desk.proofs.Effects.{claim-quiet, with_event}
use Rattle.dd_desk.proofs.Histories.{replay-more}
use Rattle.dd_desk.proofs.Untold.{untold-kept}
use Rattle.std.proofs.lemmas.List.{length_push}

-- ---- what is counted

-- what the counts say is what is reserved
pub reserved-is : (c : Counted) (book : BookOf) (es : List EventOf) → IsCounted c book es → reserved_by c ≡ reserved_in book es
reserved-is c book es k = (λ i. 2 * (k.parts i).waiting + max (k.parts i).running (k.claims i - k.finishes i) + k.untold i + cond (k.shut i) 0 1)

pub reserved-at : (limits : LimitsOf) (c : Counted) (book : BookOf) (es : List EventOf) → book ≡ replay limits es → IsCounted c book es → reserved_by c ≡ reserved limits es
reserved-at limits c book es replayed k = reserved-is c book es k ∙ ap (λ b. reserved_in b es) replayed

-- nothing is counted of an empty journal
pub counted-none : (limits : LimitsOf) (c : Counted) (book : BookOf) (es : List EventOf) → es ≡ [] → book ≡ empty_book limits
    → c ≡ record { parts = record { waiting = 0; running = 0 }; claims = 0; finishes = 0; untold = 0; shut = false } → IsCounted c book es
unfolding untold
counted-none limits c book es none new zero = record {
  parts = ap (λ (x : Counted). x.parts) zero ∙ sym (ap (λ (b : BookOf). counts_in b.jobs) new);
  claims = ap (λ (x : Counted). x.claims) zero ∙ sym (ap (λ (b : BookOf). b.claims) new);
  finishes = ap (λ (x : Counted). x.finishes) zero ∙ sym (ap finishes_in none);
  untold = ap (λ (x : Counted). x.untold) zero ∙ sym (λ i. untold (length (new i).jobs) (none i));
  shut = ap (λ (x : Counted). x.shut) zero ∙ sym (ap (λ (b : BookOf). b.shut) new);
}

-- only a shut is reserved
pub reserve-none : (limits : LimitsOf) (es : List EventOf) → es ≡ [] → 1 ≤ limits.events → HasReserve limits es
unfolding run untold
reserve-none limits es none one = subst (HasReserve limits) (sym none) one

-- one event more
pub finishes-more : (es : List EventOf) (e : EventOf) → finishes_in (es ++ e ∷ []) ≡ finishes_in es + cond (is_finish e.call) 1 0
finishes-more es e = sum_by_push (λ (x : EventOf). cond (is_finish x.call) 1 0) es e

-- ---- what a call leaves of the rest of a book

-- the limits
pub limits-kept : (book : BookOf) (c : Call) → (after book c).limits ≡ book.limits
limits-kept book (Submit caller asked) = go (is_some (refusal_of book caller))
  where
    go : (b : Bool) → (cond b book (with_jobs book (book.jobs ++ new_job caller asked (first_turn caller book.jobs book.claims) ∷ []))).limits ≡ book.limits
    go true = refl
    go false = refl
limits-kept book (Claim worker) = go (next_turn book.jobs)
  where
    go : (o : Option Turn) → (book_claimed book worker o).limits ≡ book.limits
    go None = refl
    go (Some t) = refl
limits-kept book (Finish worker number claim outcome) = refl
limits-kept book (Cancel caller number) = refl
limits-kept book (Fetch caller number) = refl
limits-kept book Shut = refl

-- whether it is shut, which only a shut changes
pub shut-kept : (book : BookOf) (c : Call) → (c ≡ Shut → ⊥) → (after book c).shut ≡ book.shut
shut-kept book (Submit caller asked) not = go (is_some (refusal_of book caller))
  where
    go : (b : Bool) → (cond b book (with_jobs book (book.jobs ++ new_job caller asked (first_turn caller book.jobs book.claims) ∷ []))).shut ≡ book.shut
    go true = refl
    go false = refl
shut-kept book (Claim worker) not = go (next_turn book.jobs)
  where
    go : (o : Option Turn) → (book_claimed book worker o).shut ≡ book.shut
    go None = refl
    go (Some t) = refl
shut-kept book (Finish worker number claim outcome) not = refl
shut-kept book (Cancel caller number) not = refl
shut-kept book (Fetch caller number) not = refl
shut-kept book Shut not = absurd (not refl)

-- ---- room

-- the journal with the event of a call, of the book that it led to
pub after-is : (limits : LimitsOf) (book : BookOf) (es : List EventOf) (caller : ℕ) (c : Call) → book ≡ replay limits es → journal_after limits es caller c ≡ with_event book es caller c
after-is limits book es caller c replayed = (λ i. es ++ event caller c (reply_of (sym replayed i) c) ∷ [])

pub reserved-after : (limits : LimitsOf) (counted : Counted) (book : BookOf) (es : List EventOf) (caller : ℕ) (c : Call) → book ≡ replay limits es → IsCountedAfter counted book es c
    → reserved limits (journal_after limits es caller c) ≡ reserved_by counted
reserved-after limits counted book es caller c replayed k =
    let led : after book c ≡ replay limits (with_event book es caller c) = ap (λ b. after b c) replayed ∙ sym (replay-more limits es (event caller c (reply_of book c))) in
    ap (reserved limits) (after-is limits book es caller c replayed) ∙ sym (reserved-at limits counted (after book c) (with_event book es caller c) led (k caller))

pub length-after : (limits : LimitsOf) (es : List EventOf) (caller : ℕ) (c : Call) → length (journal_after limits es caller c) ≡ length es + 1
length-after limits es caller c = length_push es _

-- there is room
pub has-room : (limits : LimitsOf) (counted : Counted) (book : BookOf) (es : List EventOf) (caller : ℕ) (c : Call) (left free : ℕ) → book ≡ replay limits es → IsCountedAfter counted book es c
    → left + 1 + length es ≡ limits.events → free + reserved_by counted ≡ left → HasRoom limits es caller c
has-room limits counted book es caller c left free replayed k room is =
    let r = reserved-after limits counted book es caller c replayed k in
    let l = length-after limits es caller c in
    omega (arith, r, l, room, is)

-- there is none
pub no-room : (limits : LimitsOf) (counted : Counted) (book : BookOf) (es : List EventOf) (caller : ℕ) (c : Call) (left : ℕ) → book ≡ replay limits es → IsCountedAfter counted book es c
    → left + 1 + length es ≡ limits.events → left < reserved_by counted → HasRoom limits es caller c → ⊥
no-room limits counted book es caller c left replayed k room is has =
    let r = reserved-after limits counted book es caller c replayed k in
    let l = length-after limits es caller c in
    omega (arith, r, l, room, is, has)

-- the longer journal keeps its reserve
pub reserve-more : (limits : LimitsOf) (book : BookOf) (es es' : List EventOf) (e : EventOf) → book ≡ replay limits es → e.reply ≡ reply_of book e.call → es' ≡ es ++ e ∷ [] → HasRoom limits es e.caller e.call → HasReserve limits es'
reserve-more limits book es es' e replayed told now has =
    let same : journal_after limits es e.caller e.call ≡ es' = after-is limits book es e.caller e.call replayed ∙ (λ i. es ++ event e.caller e.call (sym told i) ∷ []) ∙ sym now in
    subst (HasReserve limits) same has

-- ---- a claim where nothing waits

claimed-waits_not : (number part claim : ℕ) (asked : Asked) → claimed number part claim asked ≡ reply.NothingWaits → ⊥
claimed-waits_not number part claim (Solve question) is = cc
claimed-waits_not number part claim (Table hands) is = cc
claimed-waits_not number part claim (Target question) is = cc
claimed-waits_not number part claim (Play play) is = cc

idle-turn : (book : BookOf) → IsIdle book → next_turn book.jobs ≡ None
idle-turn book idle = go (next_turn book.jobs) refl
  where
    go : (o : Option Turn) → next_turn book.jobs ≡ o → next_turn book.jobs ≡ None
    go None is = is
    go (Some t) is = absurd (claimed-waits_not t.number t.part (book.claims + 1) t.job.asked (sym (ap (claim_told book.shut book.claims) is) ∙ idle))

-- it takes one event, and leaves as much to be reserved
pub idle-claim : (limits : LimitsOf) (book : BookOf) (es : List EventOf) (caller worker : ℕ) → book ≡ replay limits es → IsIdle book → HasRoom limits es caller (Claim worker) → length es + reserved limits es < limits.events
idle-claim limits book es caller worker replayed idle has =
    let e = event caller (Claim worker) (reply_of (replay limits es) (Claim worker)) in
    let here : BookOf = replay limits es in
    let none : next_turn here.jobs ≡ None = ap (λ (b : BookOf). next_turn b.jobs) (sym replayed) ∙ idle-turn book idle in
    let stays : after here (Claim worker) ≡ here = ap (book_claimed here worker) none in
    let led : replay limits (es ++ e ∷ []) ≡ here = replay-more limits es e ∙ stays in
    let q = claim-quiet here worker in
    let finishes : finishes_in (es ++ e ∷ []) ≡ finishes_in es = (let f = finishes-more es e in omega (arith, f)) in
    let left : untold (length here.jobs) (es ++ e ∷ []) ≡ untold (length here.jobs) es = untold-kept (length here.jobs) es e (λ number le. q.tells number) in
    let same : reserved limits (es ++ e ∷ []) ≡ reserved limits es =
    ap (λ b. reserved_in b (es ++ e ∷ [])) led ∙ (λ i. 2 * waiting_in here.jobs + max (running_in here.jobs) (here.claims - finishes i) + left i + cond here.shut 0 1) in
    let l = length_push es e in
    omega (arith, same, l, has)
