-- Lists in which something stands.
use Rattle.std.proofs.Common.{◌≡◌, ℕ, zero, suc, arith, refl, sym, ap, subst, List, [], ◌∷◌, ◌++◌, length, take, Contains, Some, ◌⊎◌, inl, inr}
use Rattle.std.specs.Prelude.{slice_get, slice_set}
use Rattle.std.proofs.lemmas.List.Elements.{Contains-append_left, Contains-append_right, Contains-append_cases}
use Rattle.dd_runs.specs.Steps.{Exchanges}

-- ---- elements

pub Contains-nil : {X : Type 0} (x : X) → Contains [] x → ⊥
Contains-nil x c = let h = c.1 in omega arith

pub Contains-head : {X : Type 0} (x : X) (xs : List X) → Contains (x ∷ xs) x
Contains-head x xs = (0, omega arith, refl)

pub Contains-tail : {X : Type 0} (y : X) (xs : List X) (x : X) → Contains xs x → Contains (y ∷ xs) x
Contains-tail y xs x c = Contains-append_right (y ∷ []) xs x c

pub Contains-cons : {X : Type 0} (y : X) (xs : List X) (x : X) → Contains (y ∷ xs) x → (y ≡ x) ⊎ Contains xs x
Contains-cons y xs x (zero, b, e) = inl e
Contains-cons y xs x (suc k, b, e) = inr (k, omega arith, e)

pub Contains-middle : {X : Type 0} (xs : List X) (x : X) (ys : List X) → Contains (xs ++ x ∷ ys) x
Contains-middle xs x ys = Contains-append_right xs (x ∷ ys) x (Contains-head x ys)

-- what stands beside x stands in the list with it
pub beside : {X : Type 0} (xs : List X) (x : X) (ys : List X) (y : X) → Contains (xs ++ ys) y → Contains (xs ++ x ∷ ys) y
beside xs x ys y c = elim (Contains-append_cases xs ys y c) [
  | inl l ↦ Contains-append_left xs (x ∷ ys) y l
  | inr r ↦ Contains-append_right xs (x ∷ ys) y (Contains-tail x ys y r)
]

-- what stands in a list with x is x or stands beside it
pub beside-or : {X : Type 0} (xs : List X) (x : X) (ys : List X) (y : X) → Contains (xs ++ x ∷ ys) y → (x ≡ y) ⊎ Contains (xs ++ ys) y
beside-or xs x ys y c = elim (Contains-append_cases xs (x ∷ ys) y c) [
  | inl l ↦ inr (Contains-append_left xs ys y l)
  | inr r ↦ elim (Contains-cons x ys y r) [
    | inl e ↦ inl e
    | inr d ↦ inr (Contains-append_right xs ys y d)
  ]
]

-- an element of the first elements is one of the list
pub Contains-take : {X : Type 0} (n : ℕ) (xs : List X) (x : X) → Contains (take n xs) x → Contains xs x
Contains-take zero xs x c = absurd (Contains-nil x c)
Contains-take (suc n) [] x c = c
Contains-take (suc n) (y ∷ ys) x c = elim (Contains-cons y (take n ys) x c) [
  | inl e ↦ subst (Contains (y ∷ ys)) e (Contains-head y ys)
  | inr d ↦ Contains-tail y ys x (Contains-take n ys x d)
]

-- ---- an element that is exchanged

-- an exchange leaves what was there, but for the new element
pub exchanged : {X : Type 0} (place : ℕ) (old new : List X) (x y z : X) → Exchanges place old new x y → Contains new z → (y ≡ z) ⊎ Contains old z
exchanged place old new x y z e c = elim (beside-or e.front y e.back z (subst (λ l. Contains l z) e.after c)) [
  | inl same ↦ inl same
  | inr d ↦ inr (subst (λ l. Contains l z) (sym e.before) (beside e.front x e.back z d))
]

-- the old element was there
pub was-there : {X : Type 0} (place : ℕ) (old new : List X) (x y : X) → Exchanges place old new x y → Contains old x
was-there place old new x y e = subst (λ l. Contains l x) (sym e.before) (Contains-middle e.front x e.back)

-- ---- elements by their places

-- the others stay
pub slice_get-left : {X : Type 0} (xs ys : List X) (i : ℕ) (x : X) → slice_get xs i ≡ Some x → slice_get (xs ++ ys) i ≡ Some x
slice_get-left [] ys i x h = absurd (cc)
slice_get-left (y ∷ xs) ys zero x h = h
slice_get-left (y ∷ xs) ys (suc i) x h = slice_get-left xs ys i x h

-- an element of the longer list is one of the list, or the one at the end
pub slice_get-push-or : {X : Type 0} (xs : List X) (x : X) (i : ℕ) (y : X) → slice_get (xs ++ x ∷ []) i ≡ Some y → (slice_get xs i ≡ Some y) ⊎ ((i ≡ length xs) × (y ≡ x))
slice_get-push-or [] x zero y h = inr (refl, cc)
slice_get-push-or [] x (suc i) y h = absurd (cc)
slice_get-push-or (z ∷ xs) x zero y h = inl h
slice_get-push-or (z ∷ xs) x (suc i) y h = elim (slice_get-push-or xs x i y h) [
  | inl l ↦ inl l
  | inr r ↦ inr (ap suc r.0, r.1)
]

-- an element after another was put at a place: this one, or one of the list
pub set-or : {X : Type 0} (xs : List X) (place i : ℕ) (x y : X) → slice_get (slice_set xs place x) i ≡ Some y → (slice_get xs i ≡ Some y) ⊎ ((i ≡ place) × (y ≡ x))
set-or [] place i x y h = inl h
set-or (z ∷ xs) zero zero x y h = inr (refl, cc)
set-or (z ∷ xs) zero (suc i) x y h = inl h
set-or (z ∷ xs) (suc place) zero x y h = inl h
set-or (z ∷ xs) (suc place) (suc i) x y h = elim (set-or xs place i x y h) [
  | inl l ↦ inl l
  | inr r ↦ inr (ap suc r.0, r.1)
]

-- what stood at a place still does, or was replaced
pub set-from : {X : Type 0} (xs : List X) (place i : ℕ) (x y : X) → slice_get xs i ≡ Some y → (slice_get (slice_set xs place x) i ≡ Some y) ⊎ ((i ≡ place) × (slice_get (slice_set xs place x) i ≡ Some x))
set-from [] place i x y h = absurd (cc)
set-from (z ∷ xs) zero zero x y h = inr (refl, refl)
set-from (z ∷ xs) zero (suc i) x y h = inl h
set-from (z ∷ xs) (suc place) zero x y h = inl h
set-from (z ∷ xs) (suc place) (suc i) x y h = elim (set-from xs place i x y h) [
  | inl l ↦ inl l
  | inr r ↦ inr (ap suc r.0, r.1)
]
