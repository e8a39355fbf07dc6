-- Places by their owners.
use Rattle.std.proofs.Common.{◌≡◌, ℕ, ◌≤◌, Bool, true, false, cond, refl, sym, ap, ◌∙◌, subst, arith, List, [], ◌∷◌, nat_eq, nat_lt, Some, None}
use Rattle.std.specs.BTreeMap.Range.{IsInRange}
use Rattle.std.specs.Prelude.{Option, slice_get, IfSome, IsTrue, ◌&&◌, ◌==◌}
use Rattle.std.specs.declared.cmp.Ordering.TheVariants.{Less, Equal, Greater}
use Rattle.std.specs.declared.ops.Bound.TheVariants.{Included, Unbounded}
use Rattle.std.specs.Ordering.{is_eq, is_gt, ordering_then}
use Rattle.std.specs.BTreeMap.{is_at}
use Rattle.std.specs.BTreeSet.{BTreeSet, contains, IsKeyRangeOf, Updates}
use Rattle.std.proofs.lemmas.Bool.Decides.{nat_tests}
use Rattle.std.proofs.lemmas.Grind.{common_steps}
use Rattle.dd_book.specs.Waiting.{IsFirstFrom, IsFirstPlace, IsNextPlace, SetsOnly, has_place, pair_cmp}

-- ---- the order of pairs

then-eq : (a o b p : ℕ) (l e m f : Bool) → is_eq (ordering_then (cond l Less (cond e Equal Greater)) (cond m Less (cond f Equal Greater))) ≡ (cond l false e && cond m false f)
then-eq a o b p true e m f = refl
then-eq a o b p false true true f = refl
then-eq a o b p false true false true = refl
then-eq a o b p false true false false = refl
then-eq a o b p false false m f = refl

-- a number is found at itself
nat-at : (a o : ℕ) → cond (nat_lt a o) false (a == o) ≡ nat_eq o a
nat-at a o = grind (arith, common_steps, nat_tests)

ap2 : {a b c d : Bool} → a ≡ c → b ≡ d → (a && b) ≡ (c && d)
ap2 e f = cc

-- equal pairs
pub pair-at : (a o b p : ℕ) → is_at (pair_cmp (a, b)) (o, p) ≡ (nat_eq o a && nat_eq p b)
pair-at a o b p = then-eq a o b p (nat_lt a o) (a == o) (nat_lt b p) (b == p) ∙ ap2 (nat-at a o) (nat-at b p)

-- a pair that is not above another
pub le-tells : (a b : ℕ × ℕ) → is_gt (pair_cmp a b) ≡ false → (a.0 ≤ b.0) × (a.0 ≡ b.0 → a.1 ≤ b.1)
le-tells a b h = (grind (arith, common_steps, nat_tests), λ e. grind (arith, common_steps, nat_tests))

pub le-from : (o p q : ℕ) → p ≤ q → is_gt (pair_cmp (o, p) (o, q)) ≡ false
le-from o p q h = grind (arith, common_steps, nat_tests)

-- ---- the first place of an owner from one on

module _ (waiting : BTreeSet (ℕ × ℕ)) (owner from : ℕ) (found : List (ℕ × ℕ)) (of : IsKeyRangeOf pair_cmp (Included (owner, from)) Unbounded waiting found) where
  lacks-from : (p : ℕ) (b : Bool) → has_place waiting owner p ≡ b → (b ≡ true → ⊥) → has_place waiting owner p ≡ false
  lacks-from p true is never = absurd (never refl)
  lacks-from p false is never = is

  -- what is found first stands before each place of the owner
  first-before : (k : ℕ × ℕ) (rest : List (ℕ × ℕ)) → found ≡ k ∷ rest → (p : ℕ) → from ≤ p → has_place waiting owner p ≡ true → (k.0 ≤ owner) × (k.0 ≡ owner → k.1 ≤ p)
  first-before k rest is p past has = le-tells k (owner, p)
      (subst (λ (ks : List (ℕ × ℕ)). IfSome (slice_get ks 0) (λ x. is_gt (pair_cmp x (owner, p)) ≡ false)) is (of.2 (owner, p) (le-from owner from p past, tt) has))

  -- it is the owner's
  pub first-own : (k : ℕ × ℕ) (rest : List (ℕ × ℕ)) → found ≡ k ∷ rest → k.0 ≡ owner → IsFirstFrom (has_place waiting) owner from k.1
  first-own k rest is own =
      let there = subst (λ (ks : List (ℕ × ℕ)). IfSome (slice_get ks 0) (λ x. IsInRange pair_cmp (Included (owner, from)) Unbounded x × IsTrue (contains pair_cmp waiting x))) is of.1 in (
        (le-tells (owner, from) k there.0.0).1 (sym own),
        subst (λ o. has_place waiting o k.1 ≡ true) own there.1,
        λ p past less. lacks-from p (has_place waiting owner p) refl (λ has. omega (arith, (first-before k rest is p past has).1 own)),
      )

  -- it is another owner's
  pub first-other : (k : ℕ × ℕ) (rest : List (ℕ × ℕ)) → found ≡ k ∷ rest → (k.0 ≡ owner → ⊥) → (p : ℕ) → from ≤ p → has_place waiting owner p ≡ false
  first-other k rest is other p past =
      let there = subst (λ (ks : List (ℕ × ℕ)). IfSome (slice_get ks 0) (λ x. IsInRange pair_cmp (Included (owner, from)) Unbounded x × IsTrue (contains pair_cmp waiting x))) is of.1 in
      lacks-from p (has_place waiting owner p) refl (λ has. other (omega (arith, (le-tells (owner, from) k there.0.0).0, (first-before k rest is p past has).0)))

  pub first-none : found ≡ [] → (p : ℕ) → from ≤ p → has_place waiting owner p ≡ false
  first-none is p past = of.5 is (owner, p) (le-from owner from p past, tt)

-- the first place of all
pub first-of_all : (waiting : BTreeSet (ℕ × ℕ)) (owner : ℕ) (found : Option ℕ) → IsNextPlace waiting owner 0 found → IsFirstPlace waiting owner found
first-of_all waiting owner None none = λ p. none p (omega arith)
first-of_all waiting owner (Some place) next = (next.1, λ p less. next.2 p (omega arith) less)

-- ---- a place changes

pub sets-only : (old new : BTreeSet (ℕ × ℕ)) (owner place : ℕ) (b : Bool) → Updates pair_cmp old new (owner, place) b → SetsOnly old new owner place b
sets-only old new owner place b u o p = u.0 (o, p) ∙ ap (λ t. cond t b (has_place old o p)) (pair-at owner o place p)
