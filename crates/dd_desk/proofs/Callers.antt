-- Whose the calls of a journal are.
use Rattle.std.proofs.Common.{◌≡◌, ℕ, List, [], ◌∷◌, ◌++◌, map, refl, sym, ap, ◌∙◌}
use Rattle.std.proofs.lemmas.List.{map_push}
use Rattle.dd_book.specs.declared.call.Call.{Call}
use Rattle.dd_book.specs.declared.call.Call.TheVariants.{Submit, Claim, Finish, Cancel, Fetch, Shut}
use Rattle.dd_desk.specs.Events.{CallsAreOwn, EventOf, IsBy, calls_in, made_by}

-- a call that is by a caller is as this one makes it
by-own : (number : ℕ) (call : Call) → IsBy number call → made_by number call ≡ call
by-own number (Submit caller asked) is = ap (λ (n : ℕ). Submit n asked) (sym is)
by-own number (Claim worker) is = ap (λ (n : ℕ). Claim n) (sym is)
by-own number (Finish worker job claim outcome) is = ap (λ (n : ℕ). Finish n job claim outcome) (sym is)
by-own number (Cancel caller job) is = ap (λ (n : ℕ). Cancel n job) (sym is)
by-own number (Fetch caller job) is = ap (λ (n : ℕ). Fetch n job) (sym is)
by-own number Shut is = refl

-- no call is another's where there is none
pub own-none : (es : List EventOf) → es ≡ [] → CallsAreOwn es
own-none es none = ap (λ (xs : List EventOf). map (λ (e : EventOf). made_by e.caller e.call) xs) none ∙ sym (ap calls_in none)

-- one call more, by its caller
pub own-more : (es es' : List EventOf) (e : EventOf) → es' ≡ es ++ e ∷ [] → CallsAreOwn es → IsBy e.caller e.call → CallsAreOwn es'
own-more es es' e now all is =
    ap (λ (xs : List EventOf). map (λ (x : EventOf). made_by x.caller x.call) xs) now ∙ map_push (λ (x : EventOf). made_by x.caller x.call) es e
    ∙ (λ i. all i ++ by-own e.caller e.call is i ∷ []) ∙ sym (ap calls_in now ∙ map_push (λ (x : EventOf). x.call) es e)
