-- falling lists of numbers, and their parts
use Rattle.std.proofs.Common.{◌≡◌, ℕ, ◌<◌, Bool, true, false, cond, refl, sym, ap, ◌∙◌, List, [], ◌∷◌, inl, inr, ◌⊎◌}
use Rattle.std.specs.Prelude.{filter}

-- the number is in the list
abbrev pub Has : ℕ → List ℕ → Type 0
Has r [] = ⊥
Has r (a ∷ xs) = (a ≡ r) ⊎ Has r xs

-- each number is greater than all that come after it
abbrev pub Falls : List ℕ → Type 0
Falls [] = Unit {0}
Falls (a ∷ xs) = ((r : ℕ) → Has r xs → r < a) × Falls xs

-- what is in a part passes the test and is in the list
pub has-part : (test : ℕ → Bool) (xs : List ℕ) (r : ℕ) → Has r (filter test xs) → (test r ≡ true) × Has r xs
has-part test [] r has = absurd has
has-part test (a ∷ xs) r has = go (test a) refl (λ h. has-part test xs r h) has
  where
    go : (b : Bool) → test a ≡ b → (Has r (filter test xs) → (test r ≡ true) × Has r xs) → Has r (cond b (a ∷ filter test xs) (filter test xs)) → (test r ≡ true) × Has r (a ∷ xs)
    go true e ih h = elim h [ inl same ↦ (ap test (sym same) ∙ e, inl same) | inr later ↦ (let k = ih later in (k.0, inr k.1)) ]
    go false e ih h = (let k = ih h in (k.0, inr k.1))

-- what is in the list and passes is in the part
pub part-has : (test : ℕ → Bool) (xs : List ℕ) (r : ℕ) → Has r xs → test r ≡ true → Has r (filter test xs)
part-has test [] r has passes = absurd has
part-has test (a ∷ xs) r has passes = go (test a) refl (λ h. part-has test xs r h passes)
  where
    go : (b : Bool) → test a ≡ b → (Has r xs → Has r (filter test xs)) → Has r (cond b (a ∷ filter test xs) (filter test xs))
    go true e ih = elim has [ inl same ↦ inl same | inr later ↦ inr (ih later) ]
    go false e ih = elim has [ inl same ↦ absurd (let no : false ≡ true = sym e ∙ ap test same ∙ passes in cc) | inr later ↦ ih later ]

-- a part of a falling list falls
pub part-falls : (test : ℕ → Bool) (xs : List ℕ) → Falls xs → Falls (filter test xs)
part-falls test [] falls = tt
part-falls test (a ∷ xs) falls = go (test a) (part-falls test xs falls.1)
  where
    go : (b : Bool) → Falls (filter test xs) → Falls (cond b (a ∷ filter test xs) (filter test xs))
    go true ih = (λ r has. falls.0 r (has-part test xs r has).1, ih)
    go false ih = ih
