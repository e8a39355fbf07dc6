-- A claim that comes with a submit.
use Rattle.std.proofs.Common.{◌≡◌, ℕ, ◌+◌, [], ◌∷◌, ◌++◌, length, Some, None, Ok, Bool, true, false, cond, refl, sym, ap, ◌∙◌, subst}
use Rattle.std.specs.Prelude.{IfSome, MatchOption, Option, unwrap_or}
use Rattle.std.specs.Option.{is_some}
use Rattle.dd_request.specs.declared.asked.Asked.{Asked}
use Rattle.dd_request.specs.declared.asked.Asked.TheVariants.{Solve, Table, Target, Play}
use Rattle.dd_book.specs.declared.call.Call.TheVariants.{Submit}
use Rattle.dd_book.specs.declared.call.Reply.{Reply}
use Rattle.dd_book.specs.declared.call.Reply.TheVariants.{NothingWaits, Submitted}
use Rattle.dd_book.specs.Calls.{BookOf, IsIdle, after, claim_reply, claim_told, claimed, reply_of, with_jobs}
use Rattle.dd_book.specs.Jobs.{JobOf, Turn, first_turn, new_job, next_turn}
use Rattle.dd_book.proofs.CallerLemmas.{idle-not_shut, new-turn, refused}
use Rattle.dd_book.specs.Limits.{LimitsOf}
use Rattle.dd_desk.specs.Receipts.{PassOf}
use Rattle.dd_desk.specs.Replies.{EndsWait, IsClaimed, IsPartOf, IsPartOfNew, MayClaim}

-- who is told of a part is told of this job
part-of : (number part claim : ℕ) (asked : Asked) → IsPartOf number (claimed number part claim asked)
part-of number part claim (Solve question) = refl
part-of number part claim (Table hands) = refl
part-of number part claim (Target question) = refl
part-of number part claim (Play play) = refl

-- a book where nothing waits was not shut, and no turn is next in it
idle-open : (book : BookOf) → IsIdle book → book.shut ≡ false
idle-open book idle = go book.shut refl
  where
    go : (b : Bool) → book.shut ≡ b → b ≡ false
    go true closed = absurd (idle-not_shut book closed idle)
    go false closed = refl

told-turn : (shut : Bool) (claims : ℕ) (o : Option Turn) → claim_told shut claims o ≡ NothingWaits → o ≡ None
told-turn shut claims None e = refl
told-turn shut claims (Some t) e = absurd (go t.number t.part (claims + 1) t.job.asked e)
  where
    go : (number part claim : ℕ) (asked : Asked) → claimed number part claim asked ≡ NothingWaits → ⊥
    go number part claim (Solve question) h = absurd (cc)
    go number part claim (Target question) h = absurd (cc)
    go number part claim (Table hands) h = absurd (cc)
    go number part claim (Play play) h = absurd (cc)

-- what is claimed when this job has come
new-part : (book : BookOf) (job : JobOf) → IsIdle book → (o : Option Turn) → next_turn (book.jobs ++ job ∷ []) ≡ o → EndsWait (claim_told book.shut book.claims o)
    → IsPartOf (length book.jobs + 1) (claim_told book.shut book.claims o)
new-part book job idle None is ends = absurd (subst (λ (b : Bool). EndsWait (claim_told b book.claims None)) (idle-open book idle) ends)
new-part book job idle (Some t) is ends =
    subst (λ (n : ℕ). IsPartOf n (claimed t.number t.part (book.claims + 1) t.job.asked))
    (new-turn book.jobs job t (told-turn book.shut book.claims (next_turn book.jobs) idle) is)
    (part-of t.number t.part (book.claims + 1) t.job.asked)

-- what is claimed after a submit where nothing waited before it, if anything is, is a part of the new job
pub claims-new : (book : BookOf) (caller : ℕ) (asked : Asked) → IsIdle book → EndsWait (claim_reply (after book (Submit caller asked)))
    → IsPartOfNew (reply_of book (Submit caller asked)) (claim_reply (after book (Submit caller asked)))
claims-new book caller asked idle =
    let job = new_job caller asked (first_turn caller book.jobs book.claims) in
    refused
    (λ (o : Option Reply). EndsWait (claim_reply (cond (is_some o) book (with_jobs book (book.jobs ++ job ∷ []))))
    → IsPartOfNew (unwrap_or o (Submitted (length book.jobs + 1))) (claim_reply (cond (is_some o) book (with_jobs book (book.jobs ++ job ∷ [])))))
    _ _ _
    (λ refusal ends. absurd (subst EndsWait idle ends))
    (λ ends. new-part book job idle (next_turn (book.jobs ++ job ∷ [])) refl ends)

-- a claim that may have come with such a submit
pub may_claim : (limits : LimitsOf) (before after_claim : PassOf) (book now : BookOf) (caller : ℕ) (asked : Asked) (submitted : Reply) (result : Option Reply)
    → IsIdle book → submitted ≡ reply_of book (Submit caller asked) → now ≡ after book (Submit caller asked)
    → MatchOption result (after_claim ≡ before) (λ reply. IsClaimed limits before reply after_claim) → IfSome result (λ reply. reply ≡ claim_reply now)
    → MayClaim limits before (Ok submitted) result after_claim
may_claim limits before after_claim book now caller asked submitted None idle told next claimed is = claimed
may_claim limits before after_claim book now caller asked submitted (Some reply) idle told next claimed is =
    let same : reply ≡ claim_reply (after book (Submit caller asked)) = is ∙ ap claim_reply next in
    let of_new = claims-new book caller asked idle (subst EndsWait same claimed.1) in
    (claimed, subst (λ (r : Reply). IsPartOfNew r reply) (sym told) (subst (IsPartOfNew (reply_of book (Submit caller asked))) (sym same) of_new))
