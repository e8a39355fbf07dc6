-- elements of lists that were changed
use Rattle.std.proofs.Common.{◌≡◌, ℕ, zero, suc, ◌<◌, List, [], ◌∷◌, length, set, get_or, length-set, get_or-set_same, get_or-set_other, sym, ap, ◌∙◌, inl, inr, ◌⊎◌, arith}
use Rattle.std.specs.List.{Contains}
use Rattle.std.proofs.lemmas.Bool.Decides.{eqb_tells}

-- an element of a list in which one was written is that one or an element of the list
pub set-has : {X : Type 0} (xs : List X) (i : ℕ) (x t : X) → Contains (set xs i x) t → Contains xs t ⊎ (x ≡ t)
set-has xs i x t (k, within, here) = elim (eqb_tells k i) [
  | inl same ↦ inr (
      let less : i < length xs = (let l = length-set xs i x in omega (arith, l, within, same.1)) in
      sym (get_or-set_same xs i x t less) ∙ sym (ap (λ j. get_or (set xs i x) j t) same.1) ∙ here)
  | inr apart ↦ inl (
    k,
    (let l = length-set xs i x in omega (arith, l, within)),
    sym (get_or-set_other xs i k x t apart.1) ∙ here,
  )
]

-- an element of a list is its first or one of the rest
first-or-rest : {X : Type 0} (x t : X) (xs : List X) → Contains (x ∷ xs) t → (x ≡ t) ⊎ Contains xs t
first-or-rest {X = X} x t xs has = go has.0 has.1 has.2
  where
    go : (k : ℕ) → k < length (x ∷ xs) → get_or (x ∷ xs) k t ≡ t → (x ≡ t) ⊎ Contains xs t
    go zero within here = inl here
    go (suc k) within here = inr (k, omega (arith, within), here)

-- each of a list's elements is this one
abbrev pub AllAre : {X : Type 0} → X → List X → Type 0
AllAre f [] = Unit {0}
AllAre f (x ∷ xs) = (x ≡ f) × AllAre f xs

-- so no other is in it
pub only-that : {X : Type 0} (f t : X) (xs : List X) → AllAre f xs → Contains xs t → f ≡ t
only-that f t [] all has = absurd (let within = has.1 in omega (arith, within))
only-that f t (x ∷ xs) all has = elim (first-or-rest x t xs has) [ inl here ↦ sym all.0 ∙ here | inr rest ↦ only-that f t xs all.1 rest ]
