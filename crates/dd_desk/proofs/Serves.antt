-- What is reserved serves: each call that an event is reserved for has room.
use Rattle.std.proofs.Common.{◌≡◌, ℕ, ◌+◌, ◌-◌, ◌<◌, ◌≤◌, ◌||◌, inl, inr, Bool, true, false, cond, not, refl, sym, ap, ◌∙◌, subst, arith, List, [], ◌∷◌, ◌++◌, length, Option, Some, None}
use Rattle.std.specs.Prelude.{IsSome}
use Rattle.std.specs.Option.{is_some}
use Rattle.std.proofs.lemmas.Bool.{cases_eq}
use Rattle.std.proofs.lemmas.Option.{same_Some}
use Rattle.dd_book.specs.Limits.{LimitsOf}
use Rattle.dd_book.specs.declared.call.Call.{Call}
use Rattle.dd_book.specs.declared.call.Call.TheVariants.{Submit, Claim, Finish, Cancel, Fetch, Shut}
use Rattle.dd_book.specs.declared.call.Outcome.{Outcome}
use Rattle.dd_book.specs.declared.call.Outcome.TheVariants.{Stopped}
use Rattle.dd_book.specs.declared.call.Reply.{Reply}
use Rattle.dd_book.specs.declared.call.Reply.TheVariants as reply
use Rattle.dd_book.specs.declared.job.Stage.TheVariants.{Cancelled as CancelledStage}
use Rattle.dd_book.specs.Jobs.{JobOf, Turn, is_open, is_open_job, job_at, next_turn, own_job, with_job, with_stage}
use Rattle.dd_book.specs.Calls.{BookOf, after, book_claimed, empty_book, finish_reply, jobs_cancelled, refusal_of, replies, reply_of, run}
use Rattle.dd_book.specs.Counts.{running_in, waiting_in}
use Rattle.dd_book.proofs.CallerLemmas.{cancel-least, ended-stays, job_at-place, recorded-counts, stale-same, turn-counts, own-is}
use Rattle.dd_desk.specs.Events.{EventOf, IsLegal, calls_in, event, replay, replies_in}
use Rattle.dd_desk.specs.Looks.{is_ended_job}
use Rattle.dd_desk.specs.Reserve.{IsReserved, ReserveServes, finishes_in, is_finish, is_told, reserved_in, tells_end, untold}
use Rattle.dd_desk.proofs.Effects.{cancel-quiet, cancel-tells_end, claim-quiet, fetch-quiet, fetch-tells_end, finish-quiet, own-within, shut-quiet, submit-begins, submit-quiet, untold-ends, untold-quiet, with_event}
use Rattle.dd_desk.proofs.Histories.{replay-more}
use Rattle.dd_desk.proofs.Reserved.{finishes-more, length-after, shut-kept}
use Rattle.dd_desk.proofs.Untold.{TellsOne, untold-some, get-set_here}
use Rattle.dd_desk.proofs.Rightness.{same-first}

-- ---- who was told that a job has ended is right

-- the job of this number is there, and not open
abbrev HasEnded : ℕ → List JobOf → Type 0
HasEnded number jobs = (job : JobOf) × (job_at jobs number ≡ Some job) × (is_open job ≡ false)

-- the own open job that is cancelled
cancel-closes : (book : BookOf) (caller number : ℕ) → is_open_job (own_job book.jobs caller number) ≡ true → HasEnded number (after book (Cancel caller number)).jobs
cancel-closes book caller number opened = go (own_job book.jobs caller number) refl opened
  where
    go : (o : Option JobOf) → own_job book.jobs caller number ≡ o → is_open_job o ≡ true → HasEnded number (jobs_cancelled book.jobs number o)
    go None is e = absurd (cc)
    go (Some job) is e =
        let within = own-within book.jobs caller number job is in
        let closed = with_stage job CancelledStage in
        let low : number - 1 < length book.jobs = omega (arith, within.0, within.1) in
        let here = job_at-place (with_job book.jobs number closed) (number - 1) number closed (omega (arith, within.0)) (get-set_here book.jobs (number - 1) closed low) in
        subst (HasEnded number) (ap (λ b. cond b (with_job book.jobs number closed) book.jobs) (sym e)) (closed, here, refl)

-- the own job that has ended
fetch-closed : (book : BookOf) (caller number : ℕ) → is_ended_job (own_job book.jobs caller number) ≡ true → HasEnded number book.jobs
fetch-closed book caller number ended = go (own_job book.jobs caller number) refl ended
  where
    not-true : (b : Bool) → not b ≡ true → b ≡ false
    not-true true h = absurd (cc)
    not-true false h = refl

    go : (o : Option JobOf) → own_job book.jobs caller number ≡ o → is_ended_job o ≡ true → HasEnded number book.jobs
    go None is e = absurd (cc)
    go (Some job) is e = (job, own-is book.jobs caller number job is, not-true (is_open job) e)

-- a reply that tells of no end tells nothing of this one
no-end : (number : ℕ) (told : Reply) → ((k : ℕ) → tells_end k told ≡ false) → tells_end number told ≡ true → ⊥
no-end number told none tells = let e : false ≡ true = sym (none number) ∙ tells in cc

-- a reply that tells of one end tells of no other
which : (number other : ℕ) (told : Reply) → TellsOne told other → tells_end number told ≡ true → number ≡ other
which number other told one tells = elim (cases_eq number other) [
  | inl same ↦ same
  | inr differ ↦ absurd (let e : false ≡ true = sym (one.others number differ) ∙ tells in cc)
]

-- after a reply that tells it the job has ended
tells-closes : (book : BookOf) (c : Call) (number : ℕ) → tells_end number (reply_of book c) ≡ true → HasEnded number (after book c).jobs
tells-closes book (Submit caller asked) number tells = absurd (go (is_some (refusal_of book caller)) refl)
  where
    go : (b : Bool) → is_some (refusal_of book caller) ≡ b → ⊥
    go true is = no-end number (reply_of book (Submit caller asked)) (submit-quiet book caller asked is).tells tells
    go false is = no-end number (reply_of book (Submit caller asked)) (submit-begins book caller asked is).tells tells
tells-closes book (Claim worker) number tells = absurd (no-end number (reply_of book (Claim worker)) (claim-quiet book worker).tells tells)
tells-closes book (Finish worker job claim outcome) number tells = absurd (no-end number (reply_of book (Finish worker job claim outcome)) (finish-quiet book worker job claim outcome).tells tells)
tells-closes book (Cancel caller job) number tells = go (is_open_job (own_job book.jobs caller job)) refl
  where
    go : (b : Bool) → is_open_job (own_job book.jobs caller job) ≡ b → HasEnded number (after book (Cancel caller job)).jobs
    go true is =
        let same = which number job (reply_of book (Cancel caller job)) (cancel-tells_end book caller job is).tells tells in
        subst (λ k. HasEnded k (after book (Cancel caller job)).jobs) (sym same) (cancel-closes book caller job is)
    go false is = absurd (no-end number (reply_of book (Cancel caller job)) (cancel-quiet book caller job is).tells tells)
tells-closes book (Fetch caller job) number tells = go (is_ended_job (own_job book.jobs caller job)) refl
  where
    go : (b : Bool) → is_ended_job (own_job book.jobs caller job) ≡ b → HasEnded number book.jobs
    go true is =
        let same = which number job (reply_of book (Fetch caller job)) (fetch-tells_end book caller job is).tells tells in
        subst (λ k. HasEnded k book.jobs) (sym same) (fetch-closed book caller job is)
    go false is = absurd (no-end number (reply_of book (Fetch caller job)) (fetch-quiet book caller job is).tells tells)
tells-closes book Shut number tells = absurd (no-end number (reply_of book Shut) (shut-quiet book).tells tells)

-- and stays so
stays-ended : (cs : List Call) (book : BookOf) (number : ℕ) → HasEnded number book.jobs → HasEnded number (run book cs).jobs
unfolding run
stays-ended [] book number ended = ended
stays-ended (c ∷ cs) book number ended = stays-ended cs (after book c) number (ended.0, ended-stays book c number ended.0 ended.1 ended.2, ended.2)

-- of whom the replies from a book on tell it, the jobs have ended
told-ended : (es : List EventOf) (book : BookOf) (number : ℕ) → replies_in es ≡ replies book (calls_in es) → is_told number es ≡ true → HasEnded number (run book (calls_in es)).jobs
unfolding run replies
told-ended [] book number legal told = absurd (cc)
told-ended (e ∷ es) book number legal told =
    let both = same-first e.reply (reply_of book e.call) (replies_in es) (replies (after book e.call) (calls_in es)) legal in
    go (tells_end number e.reply) refl both.0 told (told-ended es (after book e.call) number both.1)
  where
    go : (b : Bool) → tells_end number e.reply ≡ b → e.reply ≡ reply_of book e.call → (b || is_told number es) ≡ true
        → (is_told number es ≡ true → HasEnded number (run (after book e.call) (calls_in es)).jobs) → HasEnded number (run (after book e.call) (calls_in es)).jobs
    go true is same some rest = stays-ended (calls_in es) (after book e.call) number (tells-closes book e.call number (sym (ap (tells_end number) same) ∙ is))
    go false is same some rest = rest some

-- of the caller's own open job nobody was told it
open-untold : (limits : LimitsOf) (es : List EventOf) (caller number : ℕ) → IsLegal limits es → is_open_job (own_job (replay limits es).jobs caller number) ≡ true → is_told number es ≡ false
open-untold limits es caller number legal opened = go (is_told number es) refl
  where
    at : (o : Option JobOf) → own_job (replay limits es).jobs caller number ≡ o → is_open_job o ≡ true → (job : JobOf) × (own_job (replay limits es).jobs caller number ≡ Some job) × (is_open job ≡ true)
    at None is e = absurd (cc)
    at (Some job) is e = (job, is, e)

    go : (b : Bool) → is_told number es ≡ b → is_told number es ≡ false
    go false is = is
    go true is =
        let ended = told-ended es (empty_book limits) number legal is in
        let own = at (own_job (replay limits es).jobs caller number) refl opened in
        let same = same_Some own.0 ended.0 (sym (own-is (replay limits es).jobs caller number own.0 own.1) ∙ ended.1) in
        absurd (let no : true ≡ false = sym own.2 ∙ ap is_open same ∙ ended.2 in cc)

-- ---- what is reserved falls by one at least

abbrev Falls : BookOf → List EventOf → ℕ → Call → Type 0
Falls book es caller c = reserved_in (after book c) (with_event book es caller c) + 1 ≤ reserved_in book es

module _ (book : BookOf) (es : List EventOf) (caller : ℕ) where
  finishes-are : (c : Call) (n : ℕ) → cond (is_finish c) 1 0 ≡ n → finishes_in (with_event book es caller c) ≡ finishes_in es + n
  finishes-are c n is = finishes-more es (event caller c (reply_of book c)) ∙ ap (λ k. finishes_in es + k) is

  claim-falls : (worker : ℕ) (t : Turn) → next_turn book.jobs ≡ Some t → Falls book es caller (Claim worker)
  claim-falls worker t is =
      let counts = turn-counts book worker t is in
      let finishes = finishes-are (Claim worker) 0 refl in
      let left = untold-quiet book es (Claim worker) _ (claim-quiet book worker) refl caller in
      let claims : (after book (Claim worker)).claims ≡ book.claims + 1 = ap (λ (o : Option Turn). (book_claimed book worker o).claims) is in
      let shut = shut-kept book (Claim worker) (λ e. cc) in
      omega (arith, counts.0, counts.1, finishes, left, claims, ap {B = ℕ} (λ b. cond b 0 1) shut)

  finish-falls : (worker number claim : ℕ) (outcome : Outcome) → finish_reply book worker number claim outcome ≡ reply.Recorded → (outcome ≡ Stopped → ⊥) → Falls book es caller (Finish worker number claim outcome)
  finish-falls worker number claim outcome recorded ends =
      let counts = recorded-counts book worker number claim outcome recorded ends in
      let finishes = finishes-are (Finish worker number claim outcome) 1 refl in
      let left = untold-quiet book es (Finish worker number claim outcome) _ (finish-quiet book worker number claim outcome) refl caller in
      omega (arith, counts.0, counts.1, finishes, left)

  stale-falls : (worker number claim : ℕ) (outcome : Outcome) → finish_reply book worker number claim outcome ≡ reply.Stale → running_in book.jobs + finishes_in es < book.claims → Falls book es caller (Finish worker number claim outcome)
  stale-falls worker number claim outcome stale due =
      let same = ap (λ (b : BookOf). b.jobs) (stale-same book worker number claim outcome stale) in
      let finishes = finishes-are (Finish worker number claim outcome) 1 refl in
      let left = untold-quiet book es (Finish worker number claim outcome) _ (finish-quiet book worker number claim outcome) refl caller in
      omega (arith, ap waiting_in same, ap running_in same, finishes, left, due)

  cancel-falls : (own number : ℕ) → is_open_job (own_job book.jobs own number) ≡ true → is_told number es ≡ false → Falls book es caller (Cancel own number)
  cancel-falls own number opened none =
      let counts = cancel-least book own number in
      let finishes = finishes-are (Cancel own number) 0 refl in
      let t = cancel-tells_end book own number opened in
      let some = untold-some (length book.jobs) number es t.low t.high none in
      let left = untold-ends book es (Cancel own number) number (untold (length book.jobs) es - 1) t (ap (λ b. untold (length book.jobs) es - 1 + cond b 0 1) none ∙ omega (arith, some)) caller in
      omega (arith, counts.0, counts.1, finishes, left, some)

  fetch-falls : (own number : ℕ) → is_ended_job (own_job book.jobs own number) ≡ true → is_told number es ≡ false → Falls book es caller (Fetch own number)
  fetch-falls own number ended none =
      let finishes = finishes-are (Fetch own number) 0 refl in
      let t = fetch-tells_end book own number ended in
      let some = untold-some (length book.jobs) number es t.low t.high none in
      let left = untold-ends book es (Fetch own number) number (untold (length book.jobs) es - 1) t (ap (λ b. untold (length book.jobs) es - 1 + cond b 0 1) none ∙ omega (arith, some)) caller in
      omega (arith, finishes, left, some)

  shut-falls : book.shut ≡ false → Falls book es caller Shut
  shut-falls opened =
      let finishes = finishes-are Shut 0 refl in
      let left = untold-quiet book es Shut _ (shut-quiet book) refl caller in
      omega (arith, finishes, left, ap {B = ℕ} (λ b. cond b 0 1) opened)

-- ---- the law

falls : (book : BookOf) (es : List EventOf) (caller : ℕ) (c : Call) → IsReserved book es c
    → ((own number : ℕ) → is_open_job (own_job book.jobs own number) ≡ true → is_told number es ≡ false) → Falls book es caller c
falls book es caller (Submit own asked) kept_for untold-yet = absurd kept_for
falls book es caller (Claim worker) kept_for untold-yet = go (next_turn book.jobs) refl kept_for
  where
    go : (o : Option Turn) → next_turn book.jobs ≡ o → IsSome o → Falls book es caller (Claim worker)
    go None is e = absurd (cc)
    go (Some t) is e = claim-falls book es caller worker t is
falls book es caller (Finish worker job claim outcome) (inl r) untold-yet = finish-falls book es caller worker job claim outcome r.0 r.1
falls book es caller (Finish worker job claim outcome) (inr s) untold-yet = stale-falls book es caller worker job claim outcome s.0 s.1
falls book es caller (Cancel own job) kept_for untold-yet = cancel-falls book es caller own job kept_for (untold-yet own job kept_for)
falls book es caller (Fetch own job) kept_for untold-yet = fetch-falls book es caller own job (ap is_ended_job kept_for.1 ∙ ap not kept_for.2) kept_for.3
falls book es caller Shut kept_for untold-yet = shut-falls book es caller kept_for

pub serves : ReserveServes
serves limits es caller c legal reserve kept_for =
    let book : BookOf = replay limits es in
    let e = event caller c (reply_of book c) in
    let less = falls book es caller c kept_for (λ own number opened. open-untold limits es own number legal opened) in
    let led : reserved_in (replay limits (es ++ e ∷ [])) (es ++ e ∷ []) ≡ reserved_in (after book c) (es ++ e ∷ []) = ap (λ b. reserved_in b (es ++ e ∷ [])) (replay-more limits es e) in
    let l = length-after limits es caller c in
    omega (arith, less, led, l, reserve)
