-- Elements of a list by their places, and of two tests each.
use Rattle.std.proofs.Common.{◌≡◌, ℕ, zero, suc, ◌+◌, ◌<◌, Bool, true, false, refl, ap, ◌∙◌, arith, List, [], ◌∷◌, ◌++◌, length, Some, None, set}
use Rattle.std.specs.Prelude.{slice_get}
use Rattle.std.specs.List.{position_from}

-- ---- two tests

-- ---- elements by their places

pub slice_get-set_here : {X : Type 0} (xs : List X) (i : ℕ) (y : X) → i < length xs → slice_get (set xs i y) i ≡ Some y
slice_get-set_here [] i y h = absurd (omega arith)
slice_get-set_here (x ∷ xs) zero y h = refl
slice_get-set_here (x ∷ xs) (suc i) y h = slice_get-set_here xs i y (omega arith)

pub slice_get-set_other : {X : Type 0} (xs : List X) (i k : ℕ) (y : X) → (k ≡ i → ⊥) → slice_get (set xs i y) k ≡ slice_get xs k
slice_get-set_other [] i k y h = refl
slice_get-set_other (x ∷ xs) zero zero y h = absurd (h refl)
slice_get-set_other (x ∷ xs) zero (suc k) y h = refl
slice_get-set_other (x ∷ xs) (suc i) zero y h = refl
slice_get-set_other (x ∷ xs) (suc i) (suc k) y h = slice_get-set_other xs i k y (λ e. h (ap suc e))

pub slice_get-push_here : {X : Type 0} (xs : List X) (y : X) → slice_get (xs ++ y ∷ []) (length xs) ≡ Some y
slice_get-push_here [] y = refl
slice_get-push_here (x ∷ xs) y = slice_get-push_here xs y

pub slice_get-push_other : {X : Type 0} (xs : List X) (k : ℕ) (y : X) → (k ≡ length xs → ⊥) → slice_get (xs ++ y ∷ []) k ≡ slice_get xs k
slice_get-push_other [] zero y h = absurd (h refl)
slice_get-push_other [] (suc k) y h = refl
slice_get-push_other (x ∷ xs) zero y h = refl
slice_get-push_other (x ∷ xs) (suc k) y h = slice_get-push_other xs k y (λ e. h (ap suc e))

pub slice_get-end : {X : Type 0} (xs : List X) → slice_get xs (length xs) ≡ None
slice_get-end [] = refl
slice_get-end (x ∷ xs) = slice_get-end xs

-- ---- the first that passes a test

-- the first place that passes, told by the places
pub position_from-first : {X : Type 0} (p : X → Bool) (i k : ℕ) (xs : List X) (x : X) → slice_get xs k ≡ Some x → p x ≡ true
    → ((j : ℕ) (y : X) → j < k → slice_get xs j ≡ Some y → p y ≡ false) → position_from p i xs ≡ Some (i + k)
position_from-first p i k [] x here t below = absurd (cc)
position_from-first p i zero (y ∷ xs) x here t below = let same : y ≡ x = cc in rw (ap p same ∙ t) (ap Some (omega arith))
position_from-first p i (suc k) (y ∷ xs) x here t below = rw (below 0 y (omega arith) refl)
    (position_from-first p (i + 1) k xs x here t (λ j z h e. below (suc j) z (omega arith) e) ∙ ap Some (omega arith))

pub position_from-none : {X : Type 0} (p : X → Bool) (i : ℕ) (xs : List X) → ((j : ℕ) (y : X) → slice_get xs j ≡ Some y → p y ≡ false) → position_from p i xs ≡ None
position_from-none p i [] below = refl
position_from-none p i (y ∷ xs) below = rw (below 0 y refl) (position_from-none p (i + 1) xs (λ j z e. below (suc j) z e))

-- two lists that are one have one head and one tail
pub cons-parts : {A : Type 0} (x y : A) (xs ys : List A) → x ∷ xs ≡ y ∷ ys → (x ≡ y) × (xs ≡ ys)
cons-parts x y xs ys e = (cc, cc)
