-- The rounds of a session's pass of a worker, put together.
use Rattle.std.proofs.Common.{◌≡◌, ◌∙◌, ℕ, ◌<◌, List, [], ◌∷◌, ◌++◌, length, Some, None, inl, refl, sym, ap, subst, arith}
use Rattle.std.specs.Prelude.{Option}
use Rattle.std.proofs.lemmas.List.{append-nil, append_assoc, length_push}
use Rattle.dd_book.specs.declared.call.Call.TheVariants.{Claim}
use Rattle.dd_book.specs.declared.call.Reply.{Reply}
use Rattle.dd_book.specs.Limits.{LimitsOf}
use Rattle.dd_desk.specs.Receipts.{PassOf, ReceiptOf, receipt}
use Rattle.dd_desk.specs.Replies.{IsClaimed}
use Rattle.dd_work.specs.Rounds.{AreRounds, GoesOn, Works}
use Rattle.dd_server.proofs.Callers.{works_alone}
use Rattle.dd_server.specs.Callers.{IsWorkersOrClients}
use Rattle.dd_server.specs.ShortJobs.{HasClaimed, MayFollow}
use Rattle.dd_server.specs.declared.terms.Terms.{Terms}

-- a pass that has told nothing
pub none_may_follow : (budget : Option ℕ) (pass : PassOf) → pass.receipts ≡ [] → MayFollow budget pass
none_may_follow budget pass none = λ after works. works_alone budget pass after none works

-- more rounds after one
works-after : (budget : Option ℕ) (before mid after : PassOf) → GoesOn budget before mid → Works budget mid after → Works budget before after
unfolding AreRounds
works-after budget before mid after g w = record {
  number = w.number ∙ g.number;
  gained = g.claim ∷ g.finish ∷ w.gained;
  receipts = w.receipts ∙ ap (λ (l : List ReceiptOf). l ++ w.gained) g.receipts ∙ append_assoc before.receipts (g.claim ∷ g.finish ∷ []) w.gained;
  rounds = (g.claims, g.finishes, λ stopped. inl (g.late stopped), subst (λ (n : ℕ). AreRounds budget n w.gained) g.number w.rounds);
}

-- after one round more
pub round_may_follow : (budget : Option ℕ) (before after : PassOf) → MayFollow budget before → GoesOn budget before after → MayFollow budget after
round_may_follow budget before after follows goes = λ last works. follows last (works-after budget before after last goes works)

-- no round
no-round : (budget : Option ℕ) (pass : PassOf) → Works budget pass pass
unfolding AreRounds
no-round budget pass = record { number = refl; gained = []; receipts = sym (append-nil pass.receipts); rounds = tt }

-- where none follows
pub are_rounds : (budget : Option ℕ) (pass : PassOf) → MayFollow budget pass → AreRounds budget pass.number pass.receipts
are_rounds budget pass follows = follows pass (no-round budget pass)

-- ---- a pass with a claim

-- it comes back between two rounds
pub back_between : (limits : LimitsOf) (terms : Terms) (pass : PassOf) → MayFollow terms.budget pass → IsWorkersOrClients limits terms pass
back_between limits terms pass follows = inl (are_rounds terms.budget pass follows)

-- none was made
pub unclaimed : (limits : LimitsOf) (budget : Option ℕ) (pass : PassOf) → HasClaimed limits budget None pass → MayFollow budget pass
unclaimed limits budget pass h = subst (MayFollow budget) (sym h.claims) h.follows

-- one was, and has its receipt
pub has_told : (limits : LimitsOf) (budget : Option ℕ) (claimed : Reply) (pass : PassOf) → HasClaimed limits budget (Some claimed) pass → 0 < length pass.receipts
has_told limits budget claimed pass h =
    let long = length_push h.before.receipts (receipt (length h.claims.0.0.journal) (Claim h.before.number) claimed) in
    omega (arith, ap (λ (p : PassOf). length p.receipts) h.claims.0.0.gained, long)

-- its round is whole, and more may follow
pub round_done : (limits : LimitsOf) (budget used : Option ℕ) (claimed : Reply) (pass after : PassOf) → used ≡ budget → HasClaimed limits budget (Some claimed) pass
    → ((before : PassOf) → IsClaimed limits before claimed pass → GoesOn used before after) → MayFollow budget after
round_done limits budget used claimed pass after same h goes =
    round_may_follow budget h.before after h.follows (subst (λ (b : Option ℕ). GoesOn b h.before after) same (goes h.before h.claims.0))

-- it is the last
pub round_left : (limits : LimitsOf) (terms : Terms) (used : Option ℕ) (claimed : Reply) (pass after : PassOf) → used ≡ terms.budget → HasClaimed limits terms.budget (Some claimed) pass
    → ((before : PassOf) → IsClaimed limits before claimed pass → Works used before after) → IsWorkersOrClients limits terms after
round_left limits terms used claimed pass after same h leaves =
    inl (h.follows after (subst (λ (b : Option ℕ). Works b h.before after) same (leaves h.before h.claims.0)))
