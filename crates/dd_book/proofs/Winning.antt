-- Who wins a tournament.
use Rattle.std.proofs.Common.{◌≡◌, ℕ, zero, suc, ◌+◌, ◌*◌, ◌/◌, ◌<◌, ◌≤◌, Bool, true, false, cond, refl, sym, ap, ◌∙◌, subst, arith, List, [], ◌∷◌, length, inl, inr, ◌⊎◌, Some, None, set}
use Rattle.std.specs.Prelude.{Option, option_map, slice_set, MatchOption}
use Rattle.std.proofs.lemmas.Bool.{cases_eq}
use Rattle.std.proofs.lemmas.Bool.Decides.{nat_tests}
use Rattle.std.proofs.lemmas.Option.{same_Some}
use Rattle.dd_book.specs.Tournaments.{IsFirstKey, IsTournament, IsWon, comes_before, earlier, key_at, own_entry, winner_at}

-- ---- keys by their places

pub key_at-set_here : {X : Type 0} (xs : List (Option X)) (i : ℕ) (y : Option X) → i < length xs → key_at (set xs i y) i ≡ y
key_at-set_here [] i y h = absurd (omega arith)
key_at-set_here (x ∷ xs) zero y h = refl
key_at-set_here (x ∷ xs) (suc i) y h = key_at-set_here xs i y (omega arith)

pub key_at-set_other : {X : Type 0} (xs : List (Option X)) (i k : ℕ) (y : Option X) → (k ≡ i → ⊥) → key_at (set xs i y) k ≡ key_at xs k
key_at-set_other [] i k y h = refl
key_at-set_other (x ∷ xs) zero zero y h = absurd (h refl)
key_at-set_other (x ∷ xs) zero (suc k) y h = refl
key_at-set_other (x ∷ xs) (suc i) zero y h = refl
key_at-set_other (x ∷ xs) (suc i) (suc k) y h = key_at-set_other xs i k y (λ e. h (ap suc e))

pub key_at-end : {X : Type 0} (xs : List (Option X)) (k : ℕ) → length xs ≤ k → key_at xs k ≡ None
key_at-end [] k h = refl
key_at-end (x ∷ xs) zero h = absurd (omega arith)
key_at-end (x ∷ xs) (suc k) h = key_at-end xs k (omega arith)

-- a key stands within the list
pub key_at-within : {X : Type 0} (xs : List (Option X)) (k : ℕ) (x : X) → key_at xs k ≡ Some x → k < length xs
key_at-within [] k x h = absurd (cc)
key_at-within (y ∷ xs) zero x h = omega arith
key_at-within (y ∷ xs) (suc k) x h = omega (arith, key_at-within xs k x h)

-- ---- the order of entries

-- a comes before b, or is b
abbrev Le : Option (ℕ × ℕ) → Option (ℕ × ℕ) → Type 0
Le a None = Unit {0}
Le None (Some b) = ⊥
Le (Some a) (Some b) = (a.0 ≤ b.0) × (a.0 ≡ b.0 → a.1 ≤ b.1)

le-refl : (a : Option (ℕ × ℕ)) → Le a a
le-refl None = tt
le-refl (Some a) = (omega arith, λ e. omega arith)

le-trans : (a b c : Option (ℕ × ℕ)) → Le a b → Le b c → Le a c
le-trans a b None p q = tt
le-trans a None (Some c) p q = absurd q
le-trans None (Some b) (Some c) p q = absurd p
le-trans (Some a) (Some b) (Some c) p q = (
  omega (arith, p.0, q.0),
  λ e.
      let ab : a.0 ≡ b.0 = omega (arith, e, p.0, q.0) in
      let bc : b.0 ≡ c.0 = omega (arith, e, p.0, q.0) in
      omega (arith, p.1 ab, q.1 bc),
)

before-tells : (b a : ℕ × ℕ) (r : Bool) → comes_before b a ≡ r → (cond r (Le (Some b) (Some a)) (Le (Some a) (Some b)))
before-tells b a true h = (grind (arith, nat_tests), λ e. grind (arith, nat_tests))
before-tells b a false h = (grind (arith, nat_tests), λ e. grind (arith, nat_tests))

-- the one that comes first is one of the two, and comes before both
earlier-is : (a b : Option (ℕ × ℕ)) → ((earlier a b ≡ a) ⊎ (earlier a b ≡ b)) × Le (earlier a b) a × Le (earlier a b) b
earlier-is None b = (inr refl, tt, le-refl b)
earlier-is (Some a) None = (inl refl, le-refl (Some a), tt)
earlier-is (Some a) (Some b) = go (comes_before b a) refl
  where
    go : (r : Bool) → comes_before b a ≡ r
        → ((cond r (Some b) (Some a) ≡ Some a) ⊎ (cond r (Some b) (Some a) ≡ Some b)) × Le (cond r (Some b) (Some a)) (Some a) × Le (cond r (Some b) (Some a)) (Some b)
    go true h = (inr refl, before-tells b a true h, le-refl (Some b))
    go false h = (inl refl, le-refl (Some a), before-tells b a false h)

-- ---- the winners

-- a winner comes before what it is found of
winner-first : (keys : List (Option ℕ)) (winners : List (Option (ℕ × ℕ))) (i : ℕ) → IsWon keys winners i → i < length keys
    → Le (key_at winners i) (own_entry keys i) × Le (key_at winners i) (key_at winners (2 * i + 1)) × Le (key_at winners i) (key_at winners (2 * i + 2))
winner-first keys winners i won within =
    let all = earlier-is (own_entry keys i) (earlier (key_at winners (2 * i + 1)) (key_at winners (2 * i + 2))) in
    let below = earlier-is (key_at winners (2 * i + 1)) (key_at winners (2 * i + 2)) in
    let is = won within in
    subst (λ w. Le w (own_entry keys i) × Le w (key_at winners (2 * i + 1)) × Le w (key_at winners (2 * i + 2))) (sym is)
    (all.1, le-trans _ _ _ all.2 below.1, le-trans _ _ _ all.2 below.2)

-- the root's winner comes before each other one
root-first : (keys : List (Option ℕ)) (winners : List (Option (ℕ × ℕ))) → IsTournament keys winners
    → (fuel i : ℕ) → i ≤ fuel → i < length keys → Le (key_at winners 0) (key_at winners i)
root-first keys winners t fuel zero h within = le-refl (key_at winners 0)
root-first keys winners t zero (suc i) h within = absurd (omega arith)
root-first keys winners t (suc fuel) (suc i) h within =
    let up : i / 2 ≤ fuel = omega arith in
    let inside : i / 2 < length keys = omega arith in
    let above = root-first keys winners t fuel (i / 2) up inside in
    let here = winner-first keys winners (i / 2) (t.won (i / 2)) inside in
    elim (cases_eq (suc i) (2 * (i / 2) + 1)) [
      | inl left ↦ le-trans _ _ _ above (subst (λ k. Le (key_at winners (i / 2)) (key_at winners k)) (sym left) here.1)
      | inr other ↦
          let right : suc i ≡ 2 * (i / 2) + 2 = omega arith in
          le-trans _ _ _ above (subst (λ k. Le (key_at winners (i / 2)) (key_at winners k)) (sym right) here.2)
    ]

own-is : (k : Option ℕ) (place : ℕ) (e : ℕ × ℕ) → option_map (λ key. (key, place)) k ≡ Some e → (k ≡ Some e.0) × (place ≡ e.1)
own-is None place e h = absurd (cc)
own-is (Some key) place e h = let same : (key, place) ≡ e = same_Some (key, place) e h in (ap Some (ap (λ (p : ℕ × ℕ). p.0) same), ap (λ (p : ℕ × ℕ). p.1) same)

-- a winner is the entry of some place
winner-own : (keys : List (Option ℕ)) (winners : List (Option (ℕ × ℕ))) → IsTournament keys winners
    → (fuel i : ℕ) (e : ℕ × ℕ) → length keys ≤ i + fuel → key_at winners i ≡ Some e → key_at keys e.1 ≡ Some e.0
winner-own keys winners t zero i e h is =
    let none = key_at-end winners i (omega (arith, t.as_many)) in
    absurd (let no : None ≡ Some e = sym none ∙ is in cc)
winner-own keys winners t (suc fuel) i e h is =
    let within : i < length keys = omega (arith, t.as_many, key_at-within winners i e is) in
    let found = sym (t.won i within) ∙ is in
    let all = earlier-is (own_entry keys i) (earlier (key_at winners (2 * i + 1)) (key_at winners (2 * i + 2))) in
    let below = earlier-is (key_at winners (2 * i + 1)) (key_at winners (2 * i + 2)) in
    elim all.0 [
      | inl own ↦ let here = own-is (key_at keys i) i e (sym own ∙ found) in ap (key_at keys) (sym here.1) ∙ here.0
      | inr lower ↦ elim below.0 [
        | inl left ↦ winner-own keys winners t fuel (2 * i + 1) e (omega arith) (sym left ∙ sym lower ∙ found)
        | inr right ↦ winner-own keys winners t fuel (2 * i + 2) e (omega arith) (sym right ∙ sym lower ∙ found)
      ]
    ]

-- the root names the first key
pub root-is : (keys : List (Option ℕ)) (winners : List (Option (ℕ × ℕ))) (r : Option (ℕ × ℕ)) → IsTournament keys winners → r ≡ key_at winners 0
    → MatchOption r ((place : ℕ) → key_at keys place ≡ None) (λ entry. IsFirstKey keys entry.0 entry.1)
root-is keys winners None t is = λ place. go place (key_at keys place) refl
  where
    go : (place : ℕ) (o : Option ℕ) → key_at keys place ≡ o → o ≡ None
    go place None h = refl
    go place (Some k) h =
        let within = key_at-within keys place k h in
        let le = le-trans _ _ _ (root-first keys winners t place place (omega arith) within) (winner-first keys winners place (t.won place) within).0 in
        absurd (subst (λ (o : Option (ℕ × ℕ)). Le o (Some (k, place))) (sym is) (subst (λ (o : Option ℕ). Le (key_at winners 0) (option_map (λ key. (key, place)) o)) h le))
root-is keys winners (Some e) t is = record {
  there = winner-own keys winners t (length keys) 0 e (omega arith) (sym is);
  least = λ i k h.
      let within = key_at-within keys i k h in
      let le = le-trans _ _ _ (root-first keys winners t i i (omega arith) within) (winner-first keys winners i (t.won i) within).0 in
      subst (λ (o : Option (ℕ × ℕ)). Le o (Some (k, i))) (sym is) (subst (λ (o : Option ℕ). Le (key_at winners 0) (option_map (λ key. (key, i)) o)) h le);
}

-- ---- a key changes

-- one winner is made right: those that don't rest on it are right
pub won-replayed : (keys : List (Option ℕ)) (winners : List (Option (ℕ × ℕ))) (place : ℕ) (e : Option (ℕ × ℕ)) → place < length keys → length winners ≡ length keys
    → e ≡ winner_at keys winners place → ((i : ℕ) → (i ≡ place → ⊥) → IsWon keys winners i)
    → (i : ℕ) → (2 * i + 1 ≡ place → ⊥) → (2 * i + 2 ≡ place → ⊥) → IsWon keys (slice_set winners place e) i
won-replayed keys winners place e within many is others i left right inside =
    let l = key_at-set_other winners place (2 * i + 1) e left in
    let r = key_at-set_other winners place (2 * i + 2) e right in
    let rest : winner_at keys winners i ≡ winner_at keys (slice_set winners place e) i =
    ap (λ (o : Option (ℕ × ℕ)). earlier (own_entry keys i) (earlier o (key_at winners (2 * i + 2)))) (sym l)
    ∙ ap (λ (o : Option (ℕ × ℕ)). earlier (own_entry keys i) (earlier (key_at (slice_set winners place e) (2 * i + 1)) o)) (sym r) in
    elim (cases_eq i place) [
      | inl same ↦ ap (key_at (slice_set winners place e)) same ∙ key_at-set_here winners place e (omega arith) ∙ is ∙ ap (winner_at keys winners) (sym same) ∙ rest
      | inr other ↦ key_at-set_other winners place i e other ∙ others i other inside ∙ rest
    ]

-- the winner is found of what stands at the place and below it
pub winner-found : (keys : List (Option ℕ)) (winners : List (Option (ℕ × ℕ))) (place : ℕ) (left right own below e : Option (ℕ × ℕ))
    → left ≡ key_at winners (2 * place + 1) → right ≡ key_at winners (2 * place + 2) → own ≡ own_entry keys place → below ≡ earlier left right → e ≡ earlier own below
    → e ≡ winner_at keys winners place
winner-found keys winners place left right own below e l r o b is =
    is ∙ ap (λ (x : Option (ℕ × ℕ)). earlier x below) o
    ∙ ap (earlier (own_entry keys place)) (b ∙ ap (λ (x : Option (ℕ × ℕ)). earlier x right) l ∙ ap (earlier (key_at winners (2 * place + 1))) r)
