-- By what the call does: a job begins, the end of one is told, or neither.
use Rattle.std.proofs.Common.{◌≡◌, ℕ, ◌+◌, ◌++◌, [], ◌∷◌, List, length, sym, ◌∙◌, subst}
use Rattle.dd_book.specs.declared.call.Call.{Call}
use Rattle.dd_book.specs.declared.call.Call.TheVariants.{Submit, Claim, Finish, Cancel, Fetch, Shut}
use Rattle.dd_book.specs.Calls.{BookOf, after, reply_of}
use Rattle.dd_desk.specs.Events.{EventOf, event}
use Rattle.dd_desk.specs.Reserve.{untold}
use Rattle.dd_desk.proofs.Effects.{cancel-quiet, cancel-tells_end, claim-quiet, fetch-quiet, fetch-tells_end, finish-quiet, shut-quiet, submit-begins, submit-quiet, untold-begins, untold-ends, untold-quiet}
use Rattle.dd_desk.proofs.history.History.untold_after.Goals as goal

-- so many are left, whoever made the call
abbrev Leaves : BookOf → List EventOf → ℕ → Call → Type 0
Leaves book es left c = (caller : ℕ) → left ≡ untold (length (after book c).jobs) (es ++ event caller c (reply_of book c) ∷ [])

pub returns-then-refuses : goal.returns-then-refuses
returns-then-refuses c =
    let self = c.args.self.now in
    subst (Leaves self.book self.journal.items self.counted.untold) (sym c.in-Submit.is)
    (untold-quiet self.book self.journal.items (Submit c.in-Submit.caller c.in-Submit.asked) self.counted.untold (submit-quiet self.book c.in-Submit.caller c.in-Submit.asked (sym c.refuses.ensures ∙ c.if-refuses.true)) self.counts.untold)

pub returns-else-refuses : goal.returns-else-refuses
returns-else-refuses c =
    let self = c.args.self.now in
    subst (Leaves self.book self.journal.items (self.counted.untold + 1)) (sym c.in-Submit.is)
    (untold-begins self.book self.journal.items (Submit c.in-Submit.caller c.in-Submit.asked) self.counted.untold (submit-begins self.book c.in-Submit.caller c.in-Submit.asked (sym c.refuses.ensures ∙ c.if-refuses.false)) self.jobs self.counts.untold)

pub returns-then-is_open : goal.returns-then-is_open
returns-then-is_open c =
    let self = c.args.self.now in
    subst (Leaves self.book self.journal.items c.untold_but.result) (sym c.in-Cancel.is)
    (untold-ends self.book self.journal.items (Cancel c.in-Cancel.caller c.in-Cancel.job) c.in-Cancel.job c.untold_but.result (cancel-tells_end self.book c.in-Cancel.caller c.in-Cancel.job (sym c.is_open.ensures ∙ c.if-is_open.true)) c.untold_but.ensures)

pub returns-else-is_open : goal.returns-else-is_open
returns-else-is_open c =
    let self = c.args.self.now in
    subst (Leaves self.book self.journal.items self.counted.untold) (sym c.in-Cancel.is)
    (untold-quiet self.book self.journal.items (Cancel c.in-Cancel.caller c.in-Cancel.job) self.counted.untold (cancel-quiet self.book c.in-Cancel.caller c.in-Cancel.job (sym c.is_open.ensures ∙ c.if-is_open.false)) self.counts.untold)

pub returns-then-has_ended : goal.returns-then-has_ended
returns-then-has_ended c =
    let self = c.args.self.now in
    subst (Leaves self.book self.journal.items c.untold_but-then-has_ended.result) (sym c.in-Fetch.is)
    (untold-ends self.book self.journal.items (Fetch c.in-Fetch.caller c.in-Fetch.job) c.in-Fetch.job c.untold_but-then-has_ended.result (fetch-tells_end self.book c.in-Fetch.caller c.in-Fetch.job (sym c.has_ended.ensures ∙ c.if-has_ended.true)) c.untold_but-then-has_ended.ensures)

pub returns-else-has_ended : goal.returns-else-has_ended
returns-else-has_ended c =
    let self = c.args.self.now in
    subst (Leaves self.book self.journal.items self.counted.untold) (sym c.in-Fetch.is)
    (untold-quiet self.book self.journal.items (Fetch c.in-Fetch.caller c.in-Fetch.job) self.counted.untold (fetch-quiet self.book c.in-Fetch.caller c.in-Fetch.job (sym c.has_ended.ensures ∙ c.if-has_ended.false)) self.counts.untold)

pub returns-in-Claim : goal.returns-in-Claim
returns-in-Claim c =
    let self = c.args.self.now in
    subst (Leaves self.book self.journal.items self.counted.untold) (sym c.in-Claim.is)
    (untold-quiet self.book self.journal.items (Claim c.in-Claim.worker) self.counted.untold (claim-quiet self.book c.in-Claim.worker) self.counts.untold)

pub returns-in-Finish : goal.returns-in-Finish
returns-in-Finish c =
    let self = c.args.self.now in
    let at = c.in-Finish in
    subst (Leaves self.book self.journal.items self.counted.untold) (sym at.is)
    (untold-quiet self.book self.journal.items (Finish at.worker at.job at.claim at.outcome) self.counted.untold (finish-quiet self.book at.worker at.job at.claim at.outcome) self.counts.untold)

pub returns-in-Shut : goal.returns-in-Shut
returns-in-Shut c =
    let self = c.args.self.now in
    subst (Leaves self.book self.journal.items self.counted.untold) (sym c.in-Shut.is)
    (untold-quiet self.book self.journal.items Shut self.counted.untold (shut-quiet self.book) self.counts.untold)
