-- Whose pass it is.
use Rattle.std.proofs.Common.{arith, ◌≡◌, ◌∙◌, ℕ, List, [], ◌∷◌, ◌++◌, length, Option, None, Some, Ok, Err, false, inl, inr, refl, sym, ap, subst}
use Rattle.std.specs.Prelude.{All, IfSome, Result}
use Rattle.std.proofs.lemmas.List.Elements.{All-append, All-cons, All-nil, All-weaker}
use Rattle.dd_book.specs.declared.call.Call.TheVariants.{Shut}
use Rattle.dd_book.specs.declared.call.Reply.{Reply}
use Rattle.dd_book.specs.Limits.{LimitsOf}
use Rattle.dd_desk.specs.declared.fault.DeskFault.{DeskFault}
use Rattle.dd_desk.specs.Receipts.{PassOf, ReceiptOf, receipt}
use Rattle.dd_desk.specs.Replies.{IsTold}
use Rattle.dd_session.specs.Leaving.{SawAt, SawBy, ThenLeaves}
use Rattle.dd_session.specs.Ports.{AreClients, AsksNoStop, DeskPortOf, LatePortOf, before_by, new_late_port, pass_by, port_of, refusals_by, told_by, told_in}
use Rattle.dd_session.specs.Sockets.{ServesMessages}
use Rattle.dd_work.specs.Rounds.{AreRounds, Works}
use Rattle.dd_server.specs.Callers.{AreCallers, ShutsOnce, IsCallers, IsClients, IsWorkersOrClients}
use Rattle.dd_server.specs.declared.terms.Terms.{Terms}

-- ---- the run's own

-- a pass that has told nothing, and shut the book
pub shuts_once : (limits : LimitsOf) (before after : PassOf) (said : Result Reply DeskFault) → before.receipts ≡ [] → IsTold limits before Shut said after → ShutsOnce after.receipts
shuts_once limits before after (Ok reply) none answered =
    subst (λ (p : PassOf). ShutsOnce p.receipts) (sym answered.gained)
    (subst (λ (l : List ReceiptOf). ShutsOnce (l ++ receipt (length answered.journal) Shut reply ∷ [])) (sym none) (omega arith, refl))
shuts_once limits before after (Err fault) none (of_call, same, refused) =
    subst (λ (p : PassOf). ShutsOnce p.receipts) (sym same) (subst ShutsOnce (sym none) (omega arith, refl))

-- ---- a worker's

-- all receipts of a worker whose pass had none are rounds
pub works_alone : (budget : Option ℕ) (before after : PassOf) → before.receipts ≡ [] → Works budget before after → AreRounds budget after.number after.receipts
works_alone budget before after none works =
    subst (λ n. AreRounds budget n after.receipts) (sym works.number)
    (subst (AreRounds budget before.number) (sym (works.receipts ∙ ap (λ (l : List ReceiptOf). l ++ works.gained) none)) works.rounds)

-- ---- a client's

-- the pass of a port that was just made, when some lines were served over it and it was left
clients-of : (limits : LimitsOf) (terms : Terms) (port : Option DeskPortOf) (refused : ℕ) (pass : Option PassOf) → before_by port ≡ 0 → pass ≡ pass_by port
    → IfSome pass (λ p. told_in p.receipts ≡ told_by port) → IfSome pass (λ p. AreClients p.number p.receipts)
    → ThenLeaves (ServesMessages terms.manner (port_of [] 0)) (SawBy limits port) (port_of (told_by port) (refusals_by refused port))
    → (terms.manner.allow_stop ≡ false → AsksNoStop [] (told_by port)) → IfSome pass (IsClients limits terms)
clients-of limits terms None refused None begun is told calls asked leave = tt
clients-of limits terms None refused (Some p) begun is told calls asked leave = cc
clients-of limits terms (Some port) refused None begun is told calls asked leave = cc
clients-of limits terms (Some port) refused (Some p) begun is told calls asked leave =
    let same : port.pass ≡ p = cc in
    record {
      calls = calls;
      refusals = port.refusals;
      asked = subst (λ (n : ℕ). ThenLeaves (ServesMessages terms.manner (port_of [] 0)) (SawAt limits n p) (port_of (told_in p.receipts) port.refusals)) begun
          (subst (λ (q : PassOf). ThenLeaves (ServesMessages terms.manner (port_of [] 0)) (SawAt limits port.before q) (port_of (told_in p.receipts) port.refusals)) same
          (subst (λ l. ThenLeaves (ServesMessages terms.manner (port_of [] 0)) (SawBy limits (Some port)) (port_of l port.refusals)) (sym told) asked));
      leave = λ none. subst (AsksNoStop []) (sym told) (leave none);
    }

pub clients_pass : (limits : LimitsOf) (terms : Terms) (workers : ℕ) (start after : LatePortOf) (pass : Option PassOf) → start ≡ new_late_port workers → before_by after.port ≡ 0 → pass ≡ pass_by after.port
    → IfSome pass (λ p. told_in p.receipts ≡ told_by after.port) → IfSome pass (λ p. AreClients p.number p.receipts)
    → ThenLeaves (λ between. ServesMessages terms.manner (port_of (told_by start.port) (refusals_by start.refused start.port)) between) (SawBy limits after.port)
    (port_of (told_by after.port) (refusals_by after.refused after.port))
    → (terms.manner.allow_stop ≡ false → AsksNoStop (told_by start.port) (told_by after.port)) → IfSome pass (IsClients limits terms)
clients_pass limits terms workers start after pass fresh begun is told calls asked leave =
    clients-of limits terms after.port after.refused pass begun is told calls
    (subst (λ (s : LatePortOf). ThenLeaves (λ between. ServesMessages terms.manner (port_of (told_by s.port) (refusals_by s.refused s.port)) between) (SawBy limits after.port)
    (port_of (told_by after.port) (refusals_by after.refused after.port))) fresh asked)
    (λ none. subst (λ (s : LatePortOf). AsksNoStop (told_by s.port) (told_by after.port)) fresh (leave none))

-- ---- all passes

-- one pass more comes back
pub callers_more : (limits : LimitsOf) (terms : Terms) (passes : List PassOf) (pass : PassOf) → All (IsWorkersOrClients limits terms) passes → IsWorkersOrClients limits terms pass
    → All (IsWorkersOrClients limits terms) (passes ++ pass ∷ [])
callers_more limits terms passes pass each here =
    All-append (IsWorkersOrClients limits terms) passes (pass ∷ []) each
    (All-cons (IsWorkersOrClients limits terms) pass [] here (All-nil (IsWorkersOrClients limits terms)))

-- passes of workers and clients alone, whichever number the run's own has
pub callers_alone : (limits : LimitsOf) (terms : Terms) (own : ℕ) (passes : List PassOf) → All (IsWorkersOrClients limits terms) passes → All (IsCallers limits terms own) passes
callers_alone limits terms own passes each = All-weaker (IsWorkersOrClients limits terms) (IsCallers limits terms own) (λ pass here. inr here) passes each

-- these and the run's own
pub callers_with_own : (limits : LimitsOf) (terms : Terms) (passes : List PassOf) (own : PassOf) → All (IsWorkersOrClients limits terms) passes → ShutsOnce own.receipts
    → All (IsCallers limits terms own.number) (passes ++ own ∷ [])
callers_with_own limits terms passes own each shuts =
    All-append (IsCallers limits terms own.number) passes (own ∷ []) (callers_alone limits terms own.number passes each)
    (All-cons (IsCallers limits terms own.number) own [] (inl (refl, shuts)) (All-nil (IsCallers limits terms own.number)))

-- the number of the run's own is some number
pub are_callers : (limits : LimitsOf) (terms : Terms) (own : ℕ) (passes : List PassOf) → All (IsCallers limits terms own) passes → AreCallers limits terms passes
are_callers limits terms own passes each = (own, each)
