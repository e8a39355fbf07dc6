-- Lists of pairs that are cut where a key is found.
use Rattle.std.proofs.Common.{◌≡◌, ℕ, zero, suc, Bool, true, false, refl, ap, subst, List, [], ◌∷◌, ◌++◌, map, Contains, Option, Some, None, IsSome, Result, Ok, Err, OnErr, inl, inr}
use Rattle.std.specs.Prelude.{slice_get}
use Rattle.std.specs.Map.{lookup, lookup_entry, remove_entry}
use Rattle.lru.proofs.Splits.{Contains-head, Contains-tail, Contains-cons, Contains-nil}

-- what stands in the image of a list is the image of one of its elements
pub Contains-map : {X Y : Type 0} (f : X → Y) (xs : List X) (y : Y) → Contains (map f xs) y → (x : X) × Contains xs x × (f x ≡ y)
Contains-map f [] y c = absurd (Contains-nil y c)
Contains-map f (x ∷ xs) y c = elim (Contains-cons (f x) (map f xs) y c) [
  | inl e ↦ (x, Contains-head x xs, e)
  | inr d ↦ let on = Contains-map f xs y d in (on.0, Contains-tail x xs on.0 on.1, on.2)
]

module _ {K V : Type 0} (test : K → Bool) where
  -- the pair whose key passes, and the list before and after it
  pub record Cut (es : List (K × V)) (pair : K × V) : Type 0 where
    pub found : lookup_entry test es ≡ Some pair
    pub passes : test pair.0 ≡ true
    pub front : List (K × V)
    pub back : List (K × V)
    pub cut : es ≡ front ++ pair ∷ back
    pub rest : remove_entry test es ≡ front ++ back

  -- where a look-up finds a value, the list is cut at its pair
  pub cut-found : (es : List (K × V)) (v : V) → lookup test es ≡ Some v → (pair : K × V) × (pair.1 ≡ v) × Cut es pair
  cut-found [] v h = absurd (cc)
  cut-found (e ∷ es) v h = (elim (test e.0) as (λ b. test e.0 ≡ b → (pair : K × V) × (pair.1 ≡ v) × Cut (e ∷ es) pair) [
    | true ↦ λ t. (let h' = rw t at h in let same : e.1 ≡ v = cc in
        (e, same, record { found = rw t refl; passes = t; front = []; back = es; cut = refl; rest = rw t refl }))
    | false ↦ λ t. (let on = cut-found es v (rw t at h) in
        (on.0, on.1, record { found = rw t on.2.found; passes = on.2.passes; front = e ∷ on.2.front; back = on.2.back; cut = ap (λ l. e ∷ l) on.2.cut; rest = rw t (ap (λ l. e ∷ l) on.2.rest) }))
  ]) refl

  -- where it finds none, no key passes
  pub none-passes : (es : List (K × V)) → lookup test es ≡ None → (pair : K × V) → Contains es pair → test pair.0 ≡ false
  none-passes [] h pair c = absurd (Contains-nil pair c)
  none-passes (e ∷ es) h pair c = (elim (test e.0) as (λ b. test e.0 ≡ b → test pair.0 ≡ false) [
    | true ↦ λ t. (let h' = rw t at h in absurd (cc))
    | false ↦ λ t. elim (Contains-cons e es pair c) [
      | inl same ↦ subst (λ p. test p.0 ≡ false) same t
      | inr d ↦ none-passes es (rw t at h) pair d
    ]
  ]) refl

  -- .. and there is no such pair
  pub no-entry : (es : List (K × V)) → lookup test es ≡ None → lookup_entry test es ≡ None
  no-entry [] h = refl
  no-entry (e ∷ es) h = (elim (test e.0) as (λ b. test e.0 ≡ b → lookup_entry test (e ∷ es) ≡ None) [
    | true ↦ λ t. (let h' = rw t at h in absurd (cc))
    | false ↦ λ t. rw t (no-entry es (rw t at h))
  ]) refl

-- what is not some value is none
pub missing : {X : Type 0} (o : Option X) → (IsSome o → ⊥) → o ≡ None
missing None h = refl
missing (Some x) h = absurd (h refl)

-- what holds anyway holds on an error
pub on-error : {T E : Type 0} (r : Result T E) (Q : Type 0) → Q → OnErr r Q
on-error (Ok x) Q q = tt
on-error (Err e) Q q = q

-- what stands at a place stands in the list
pub Contains-at : {X : Type 0} (xs : List X) (place : ℕ) (x : X) → slice_get xs place ≡ Some x → Contains xs x
Contains-at [] place x h = absurd (cc)
Contains-at (y ∷ ys) zero x h = let same : y ≡ x = cc in subst (Contains (y ∷ ys)) same (Contains-head y ys)
Contains-at (y ∷ ys) (suc place) x h = Contains-tail y ys x (Contains-at ys place x h)
