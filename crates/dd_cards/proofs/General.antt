-- Booleans and parts of lists: what the standard library lacks, for all crates
use Rattle.std.proofs.Common.{◌≡◌, ◌≤◌, Bool, true, false, cond, refl, sym, ap, ◌∙◌, arith, List, [], ◌∷◌, length}
use Rattle.std.specs.Prelude.{filter, map, ◌&&◌, ◌||◌}
use Rattle.std.specs.List.{list_all, list_any}
use mathlib.Core.Bool.{not}
use Rattle.std.proofs.lemmas.List.Filters.{length-filter_both}
use Rattle.std.proofs.lemmas.List.Elements.{filter_agree}

-- both, so the first
pub and-left : (a b : Bool) → (a && b) ≡ true → a ≡ true
and-left true b h = refl
and-left false b h = h

-- both, so the second
pub and-right : (a b : Bool) → (a && b) ≡ true → b ≡ true
and-right true b h = h
and-right false b h = absurd (cc)

-- the order of two tests does not matter
pub and-swap : (a b : Bool) → (a && b) ≡ (b && a)
and-swap true true = refl
and-swap true false = refl
and-swap false true = refl
and-swap false false = refl

-- a test and true is the test
pub and-true : (b : Bool) → b ≡ (b && true)
and-true true = refl
and-true false = refl

-- a test and false is false
pub and-false : (b : Bool) → false ≡ (b && false)
and-false true = refl
and-false false = refl

-- all four, so each
pub all-four : (a b c d : Bool) → (((a && b) && c) && d) ≡ true → (a ≡ true) × (b ≡ true) × (c ≡ true) × (d ≡ true)
all-four true true true true h = (refl, refl, refl, refl)
all-four true true true false h = absurd (cc)
all-four true true false d h = absurd (cc)
all-four true false c d h = absurd (cc)
all-four false b c d h = absurd (cc)

-- each of four, so all
pub four-all : (a b c d : Bool) → a ≡ true → b ≡ true → c ≡ true → d ≡ true → (((a && b) && c) && d) ≡ true
four-all a b c d p q r s = rw (p, q, r, s) refl

-- two tests that imply each other are one
pub both-ways : (a b : Bool) → (a ≡ true → b ≡ true) → (b ≡ true → a ≡ true) → a ≡ b
both-ways true b f g = sym (f refl)
both-ways false true f g = g refl
both-ways false false f g = refl

-- tests that agree on what a list has keep the same part of it
pub filter-where : {X : Type 0} (t p q : X → Bool) → ((x : X) → t x ≡ true → p x ≡ q x) → (xs : List X) → list_all t xs ≡ true → filter p xs ≡ filter q xs
filter-where t p q e [] all = refl
filter-where t p q e (x ∷ xs) all =
    let here : t x ≡ true = and-left (t x) (list_all t xs) all in
    let rest : list_all t xs ≡ true = and-right (t x) (list_all t xs) all in
    rw (e x here, filter-where t p q e xs rest) refl

-- two filters are one
pub filter-filter : {X : Type 0} (p q : X → Bool) (xs : List X) → filter p (filter q xs) ≡ filter (λ x. q x && p x) xs
filter-filter p q [] = refl
filter-filter p q (x ∷ xs) =
    elim (q x) as (λ b. filter p (cond b (x ∷ filter q xs) (filter q xs)) ≡ cond (b && p x) (x ∷ filter (λ x. q x && p x) xs) (filter (λ x. q x && p x) xs)) [
      | true ↦ ap (λ ys. cond (p x) (x ∷ ys) ys) (filter-filter p q xs)
      | false ↦ filter-filter p q xs
    ]

-- two filters may be swapped
pub filter-swap : {X : Type 0} (p q : X → Bool) (xs : List X) → filter p (filter q xs) ≡ filter q (filter p xs)
filter-swap p q xs = filter-filter p q xs ∙ filter_agree (λ x. q x && p x) (λ x. p x && q x) (λ x. and-swap (q x) (p x)) xs ∙ sym (filter-filter q p xs)

-- a filter of what a function gives
pub filter-map : {X Y : Type 0} (p : Y → Bool) (f : X → Y) (xs : List X) → filter p (map f xs) ≡ map f (filter (λ x. p (f x)) xs)
filter-map p f [] = refl
filter-map p f (x ∷ xs) =
    elim (p (f x)) as (λ b. cond b (f x ∷ filter p (map f xs)) (filter p (map f xs)) ≡ map f (cond b (x ∷ filter (λ y. p (f y)) xs) (filter (λ y. p (f y)) xs))) [
      | true ↦ ap (λ ys. f x ∷ ys) (filter-map p f xs)
      | false ↦ filter-map p f xs
    ]

-- a test that is always true keeps all
pub filter-true : {X : Type 0} (xs : List X) → filter (λ _. true) xs ≡ xs
filter-true [] = refl
filter-true (x ∷ xs) = ap (λ ys. x ∷ ys) (filter-true xs)

-- a filter makes a list no longer
pub length-filter-le : {X : Type 0} (p : X → Bool) (xs : List X) → length (filter p xs) ≤ length xs
length-filter-le p xs = let e = length-filter_both p (λ x. not (p x)) (λ x. refl) xs in omega arith

-- what passes a test in a part of a list passes it in the list
pub any-filter : {X : Type 0} (t q : X → Bool) (xs : List X) → list_any t (filter q xs) ≡ true → list_any t xs ≡ true
any-filter t q [] h = h
any-filter t q (x ∷ xs) h =
    elim (q x) as (λ b. list_any t (cond b (x ∷ filter q xs) (filter q xs)) ≡ true → (t x || list_any t xs) ≡ true) [
      | true ↦ λ k. elim (t x) as (λ a. (a || list_any t (filter q xs)) ≡ true → (a || list_any t xs) ≡ true) [ true ↦ λ _. refl | false ↦ λ k. any-filter t q xs k ] k
      | false ↦ λ k. elim (t x) as (λ a. (a || list_any t xs) ≡ true) [ true ↦ refl | false ↦ any-filter t q xs k ]
    ] h
