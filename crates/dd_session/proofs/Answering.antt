-- What a port says to a wish, as the calls that are told for it and how many are refused.
use Rattle.std.proofs.Common.{◌≡◌, ℕ, zero, suc, ◌<◌, List, [], ◌∷◌, ◌++◌, Ok, Err, inl, inr, refl, sym, ap, ◌∙◌, subst, arith, append_assoc, append-nil}
use Rattle.std.specs.Prelude.{IfOk, None, Some, Result}
use Rattle.dd_lines.specs.CountedDevices.{one_more}
use Rattle.dd_book.specs.declared.call.Reply.{Reply}
use Rattle.dd_desk.specs.declared.fault.DeskFault.{DeskFault}
use Rattle.dd_request.specs.declared.asked.Asked.{Asked}
use Rattle.dd_wire.specs.declared.want.Want.{Want}
use Rattle.dd_wire.specs.declared.want.Want.TheVariants.{Submit, Cancel, Fetch, Stop}
use Rattle.dd_wire.specs.declared.wish.Wish.{Wish}
use Rattle.dd_session.specs.Ports.{Exchange, PortOf, port_of, Tells, Gains}
use Rattle.dd_session.specs.Serving.{Answers, EndsIn, EndsInTime, SaysOne, awaited, new_job}

-- a want with a wait
abbrev pub wish_of : Want → ℕ → Wish
wish_of want wait = record { want = want; wait = wait }

-- one call
says_one : (before after : PortOf) (want : Want) (said : Result Reply DeskFault) → Tells before want said after
    → (news : List Exchange) × (refused : ℕ) × SaysOne want said news refused × Gains before news refused after
says_one before after want (Ok reply) tells = ((want, reply) ∷ [], 0, (refl, refl), tells)
says_one before after want (Err fault) (of_call, tells) =
    ([], 1, (of_call, refl, refl), tells ∙ ap (λ (l : List Exchange). port_of l (one_more before.refusals)) (sym (append-nil before.told)))

-- a wish whose reply waits for no job of its own is one call
answers_one : (before after : PortOf) (wish : Wish) (said : Result Reply DeskFault) → awaited wish.wait wish.want ≡ None
    → Tells before wish.want said after → EndsInTime wish.wait wish.want said → Answers before wish said after
answers_one before after wish said none tells ends =
    let one = says_one before after wish.want said tells in
    (one.0, one.1, rw none (one.2, ends), one.3)

-- such is one without a wait
pub answers_at_once : (before after : PortOf) (wish : Wish) (said : Result Reply DeskFault) → wish.wait ≡ 0 → Tells before wish.want said after → Answers before wish said after
answers_at_once before after wish said none tells =
    answers_one before after wish said (ap (λ (n : ℕ). awaited n wish.want) none) tells (subst (λ (n : ℕ). EndsInTime n wish.want said) (sym none) tt)

-- a fetch
awaited_fetch : (wait job : ℕ) → awaited wait (Fetch job) ≡ None
awaited_fetch zero job = refl
awaited_fetch (suc wait) job = refl

ends_fetch : (wait job : ℕ) (said : Result Reply DeskFault) → IfOk said (EndsIn wait) → EndsInTime wait (Fetch job) said
ends_fetch zero job said ends = tt
ends_fetch (suc wait) job said ends = ends

pub answers_fetch : (before after : PortOf) (wait job : ℕ) (said : Result Reply DeskFault) → Tells before (Fetch job) said after → IfOk said (EndsIn wait)
    → Answers before (wish_of (Fetch job) wait) said after
answers_fetch before after wait job said tells ends = answers_one before after (wish_of (Fetch job) wait) said (awaited_fetch wait job) tells (ends_fetch wait job said ends)

-- a cancel
awaited_cancel : (wait job : ℕ) → awaited wait (Cancel job) ≡ None
awaited_cancel zero job = refl
awaited_cancel (suc wait) job = refl

ends_cancel : (wait job : ℕ) (said : Result Reply DeskFault) → EndsInTime wait (Cancel job) said
ends_cancel zero job said = tt
ends_cancel (suc wait) job said = tt

pub answers_cancel : (before after : PortOf) (wait job : ℕ) (said : Result Reply DeskFault) → Tells before (Cancel job) said after → Answers before (wish_of (Cancel job) wait) said after
answers_cancel before after wait job said tells = answers_one before after (wish_of (Cancel job) wait) said (awaited_cancel wait job) tells (ends_cancel wait job said)

-- and a stop
awaited_stop : (wait : ℕ) → awaited wait Stop ≡ None
awaited_stop zero = refl
awaited_stop (suc wait) = refl

ends_stop : (wait : ℕ) (said : Result Reply DeskFault) → EndsInTime wait Stop said
ends_stop zero said = tt
ends_stop (suc wait) said = tt

pub answers_stop : (before after : PortOf) (wait : ℕ) (said : Result Reply DeskFault) → Tells before Stop said after → Answers before (wish_of Stop wait) said after
answers_stop before after wait said tells = answers_one before after (wish_of Stop wait) said (awaited_stop wait) tells (ends_stop wait said)

-- a submit that may wait, and is refused
pub answers_refused : (before after : PortOf) (asked : Asked) (wait : ℕ) (fault : DeskFault) → 0 < wait
    → Tells before (Submit asked) (Err fault) after → Answers before (wish_of (Submit asked) wait) (Err fault) after
answers_refused before after asked zero fault some tells = absurd (omega arith)
answers_refused before after asked (suc wait) fault some tells =
    let one = says_one before after (Submit asked) (Err fault) tells in
    (one.0, one.1, (Err fault, (refl, one.2)), one.3)

-- or makes no job
pub answers_no_job : (before after : PortOf) (asked : Asked) (wait : ℕ) (made : Reply) → 0 < wait → new_job made ≡ None
    → Tells before (Submit asked) (Ok made) after → Answers before (wish_of (Submit asked) wait) (Ok made) after
answers_no_job before after asked zero made some none tells = absurd (omega arith)
answers_no_job before after asked (suc wait) made some none tells =
    let one = says_one before after (Submit asked) (Ok made) tells in
    (one.0, one.1, (Ok made, rw none (refl, one.2)), one.3)

-- or makes a job whose state is fetched
pub answers_state : (before between after : PortOf) (asked : Asked) (wait job : ℕ) (made state : Reply) → 0 < wait → new_job made ≡ Some job
    → Tells before (Submit asked) (Ok made) between → Tells between (Fetch job) (Ok state) after → EndsIn wait state → Answers before (wish_of (Submit asked) wait) (Ok state) after
answers_state before between after asked zero job made state some new submits fetches ends = absurd (omega arith)
answers_state before between after asked (suc wait) job made state some new submits fetches ends = (
  (Submit asked, made) ∷ (Fetch job, state) ∷ [],
  0,
  (Ok made, rw new (inl (state, refl, ends, refl, refl))),
  subst (λ (p : PortOf). after ≡ port_of (p.told ++ (Fetch job, state) ∷ []) p.refusals) submits fetches
      ∙ ap (λ (l : List Exchange). port_of l before.refusals) (append_assoc before.told ((Submit asked, made) ∷ []) ((Fetch job, state) ∷ [])),
)

-- or is refused
pub answers_made : (before between after : PortOf) (asked : Asked) (wait job : ℕ) (made : Reply) (fault : DeskFault) → 0 < wait → new_job made ≡ Some job
    → Tells before (Submit asked) (Ok made) between → Tells between (Fetch job) (Err fault) after → Answers before (wish_of (Submit asked) wait) (Ok made) after
answers_made before between after asked zero job made fault some new submits refuses = absurd (omega arith)
answers_made before between after asked (suc wait) job made fault some new submits (of_call, refuses) = (
  (Submit asked, made) ∷ [],
  1,
  (Ok made, rw new (inr (fault, of_call, refl, refl, refl))),
  subst (λ (p : PortOf). after ≡ port_of p.told (one_more p.refusals)) submits refuses,
)
