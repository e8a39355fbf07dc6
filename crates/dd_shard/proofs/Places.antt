-- Places that hold pairs, walked from the last one down.
use Rattle.std.proofs.Common.{◌≡◌, ℕ, suc, ◌-◌, ◌<◌, ◌≤◌, refl, sym, ap, ◌∙◌, subst, arith, List, [], ◌∷◌, ◌++◌, length, take, drop, drop-cons, get_or, Contains, Option, Some, None, inl, inr}
use Rattle.std.proofs.lemmas.List.{take-append-drop}
use Rattle.std.proofs.Math.Seq.{drop-length}
use Rattle.std.proofs.lemmas.List.Elements.{Contains-append_right}
use Rattle.lru.proofs.Splits.{Contains-head, Contains-cons, Contains-nil}
use Rattle.dd_shard.specs.Entries.{Pair}
use Rattle.dd_shard.specs.Slots.{pair_of, known_pairs}
use Rattle.dd_shard.specs.declared.slot.Bounded.{Bounded}

-- the places from one on
from-place : {X : Type 0} (xs : List X) (left : ℕ) (x : X) → 0 < left → left ≤ length xs → x ≡ get_or xs (left - 1) x → drop (left - 1) xs ≡ x ∷ drop left xs
from-place xs left x low high e =
    let next : suc (left - 1) ≡ left = omega arith in
    let below : left - 1 < length xs = omega arith in
    let last : drop (left - 1) xs ≡ get_or xs (left - 1) x ∷ drop (suc (left - 1)) xs = drop-cons xs (left - 1) x below in
    last ∙ rw next (ap (λ y. y ∷ drop left xs) (sym e))

-- what stands at a place cuts the list there
pub cut-at : {X : Type 0} (xs : List X) (left : ℕ) (x : X) → 0 < left → left ≤ length xs → x ≡ get_or xs (left - 1) x → xs ≡ take (left - 1) xs ++ x ∷ drop left xs
cut-at xs left x low high e = sym (take-append-drop (left - 1) xs) ∙ ap (λ l. take (left - 1) xs ++ l) (from-place xs left x low high e)

-- the pairs of two lists of places
pub known-append : (xs ys : List (Option Bounded)) → known_pairs (xs ++ ys) ≡ known_pairs xs ++ known_pairs ys
known-append [] ys = refl
known-append (None ∷ xs) ys = known-append xs ys
known-append (Some x ∷ xs) ys = ap (λ l. pair_of x.cover x.bounds ∷ l) (known-append xs ys)

-- the pair at a place is one of the pairs
pub known-at : (places : List (Option Bounded)) (left : ℕ) (x : Bounded) → 0 < left → left ≤ length places → Some x ≡ get_or places (left - 1) (Some x) → Contains (known_pairs places) (pair_of x.cover x.bounds)
known-at places left x low high e =
    rw (cut-at places left (Some x) low high e, known-append (take (left - 1) places) (Some x ∷ drop left places))
    (Contains-append_right (known_pairs (take (left - 1) places)) (pair_of x.cover x.bounds ∷ known_pairs (drop left places)) (pair_of x.cover x.bounds) (Contains-head _ _))

module _ (Q : Pair → Type 0) where
  -- Q holds of each of the pairs
  abbrev pub AllOf : List Pair → Type 0
  AllOf pairs = (x : Pair) → Contains pairs x → Q x

  -- above the last place there is no pair
  pub none-above : (places : List (Option Bounded)) → AllOf (known_pairs (drop (length places) places))
  none-above places = rw (drop-length places) (λ x c. absurd (Contains-nil x c))

  -- from a blank place on there are the pairs above it
  pub blank-below : (places : List (Option Bounded)) (left : ℕ) (place : Option Bounded) → 0 < left → left ≤ length places → place ≡ get_or places (left - 1) place
      → place ≡ None → AllOf (known_pairs (drop left places)) → AllOf (known_pairs (drop (left - 1) places))
  blank-below places left place low high e blank above =
      rw (from-place places left place low high e, known-append (place ∷ []) (drop left places), blank) above

  -- from a place with a pair on there is that pair, and those above it
  pub pair-below : (places : List (Option Bounded)) (left : ℕ) (place : Option Bounded) (x : Bounded) → 0 < left → left ≤ length places → place ≡ get_or places (left - 1) place
      → place ≡ Some x → AllOf (known_pairs (drop left places)) → Q (pair_of x.cover x.bounds) → AllOf (known_pairs (drop (left - 1) places))
  pair-below places left place x low high e is above here =
      rw (from-place places left place low high e, known-append (place ∷ []) (drop left places), is)
      (λ y c. elim (Contains-cons (pair_of x.cover x.bounds) (known_pairs (drop left places)) y c) [
        | inl same ↦ subst Q same here
        | inr rest ↦ above y rest
      ])

  -- at the lowest place all are walked
  pub all-walked : (places : List (Option Bounded)) (left : ℕ) → left ≤ 0 → AllOf (known_pairs (drop left places)) → AllOf (known_pairs places)
  all-walked places left low all = let none : left ≡ 0 = omega arith in subst (λ n. AllOf (known_pairs (drop n places))) none all
