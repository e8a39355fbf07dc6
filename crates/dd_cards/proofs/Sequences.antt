-- how the highest cards of sequences are found, bit by bit
use Rattle.std.proofs.Common.{◌≡◌, ℕ, zero, suc, ◌+◌, ◌-◌, ◌*◌, ◌/◌, ◌%◌, ◌^◌, ◌<◌, ◌≤◌, Bool, true, false, refl, sym, ap, ◌∙◌, subst, arith, List, [], ◌∷◌, inl, inr, ◌⊎◌, eq-eqb, bit_and, bit_or, w64, min, max, lit<}
use Rattle.std.specs.Prelude.{filter, ◌==◌, ◌&&◌, ◌||◌, nat_lt}
use Rattle.std.specs.List.{list_any}
use Rattle.std.specs.Int.{bit_at, bit_not}
use mathlib.Core.Bool.{not}
use Rattle.std.proofs.lemmas.Bool.{eqb-true, ltb-true, cases_lt}
use Rattle.std.proofs.lemmas.Nat.{shr-shr}
use Rattle.std.proofs.lemmas.Nat.Bits.{bit_at-lt, bit_at_and, bit_at_or, bit_at_not}
use Rattle.dd_cards.proofs.General.{and-true}

-- ---- a set of places that spreads down over free places

-- is there one of `from` above the place, at most so many up, with free places between?
unfoldable pub reaches : (ℕ → Bool) → (ℕ → Bool) → ℕ → ℕ → Bool
reaches from free zero i = false
reaches from free (suc k) i = from (i + 1) || (free (i + 1) && reaches from free k (i + 1))

-- are so many places above the place free?
unfoldable pub clear : (ℕ → Bool) → ℕ → ℕ → Bool
clear free zero i = true
clear free (suc k) i = free (i + 1) && clear free k (i + 1)

regroup : (a b c d e : Bool) → (a || (b && (c || (d && e)))) ≡ ((a || (b && c)) || ((b && d) && e))
regroup true b c d e = refl
regroup false false c d e = refl
regroup false true c d e = refl

regroup-and : (a b c : Bool) → (a && (b && c)) ≡ ((a && b) && c)
regroup-and true b c = refl
regroup-and false b c = refl

-- what is reached within a sum of two numbers of places
reaches-sum : (from free : ℕ → Bool) (k m i : ℕ) → reaches from free (k + m) i ≡ (reaches from free k i || (clear free k i && reaches from free m (i + k)))
unfolding reaches clear
reaches-sum from free zero m i =
    let e : zero + m ≡ m = omega arith in
    let f : i ≡ i + 0 = omega arith in
    ap (λ x. reaches from free x i) e ∙ ap (reaches from free m) f
reaches-sum from free (suc k) m i =
    let e : suc k + m ≡ suc (k + m) = omega arith in
    let f : (i + 1) + k ≡ i + suc k = omega arith in
    ap (λ x. reaches from free x i) e
    ∙ ap (λ b. from (i + 1) || (free (i + 1) && b)) (reaches-sum from free k m (i + 1) ∙ ap (λ j. reaches from free k (i + 1) || (clear free k (i + 1) && reaches from free m j)) f)
    ∙ regroup (from (i + 1)) (free (i + 1)) (reaches from free k (i + 1)) (clear free k (i + 1)) (reaches from free m (i + suc k))

clear-sum : (free : ℕ → Bool) (k m i : ℕ) → clear free (k + m) i ≡ (clear free k i && clear free m (i + k))
unfolding clear
clear-sum free zero m i =
    let e : zero + m ≡ m = omega arith in
    let f : i ≡ i + 0 = omega arith in
    ap (λ x. clear free x i) e ∙ ap (clear free m) f
clear-sum free (suc k) m i =
    let e : suc k + m ≡ suc (k + m) = omega arith in
    let f : (i + 1) + k ≡ i + suc k = omega arith in
    ap (λ x. clear free x i) e
    ∙ ap (λ b. free (i + 1) && b) (clear-sum free k m (i + 1) ∙ ap (λ j. clear free k (i + 1) && clear free m j) f)
    ∙ regroup-and (free (i + 1)) (clear free k (i + 1)) (clear free m (i + suc k))

-- ---- the same of bits

abbrev pub is_set : ℕ → ℕ → Bool
is_set m i = bit_at m i == 1

pub or-set : (a b : ℕ) → a < 2 → b < 2 → (max a b == 1) ≡ ((a == 1) || (b == 1))
or-set zero zero h k = refl
or-set zero (suc zero) h k = refl
or-set (suc zero) zero h k = refl
or-set (suc zero) (suc zero) h k = refl
or-set (suc (suc a)) b h k = absurd (omega arith)
or-set a (suc (suc b)) h k = absurd (omega arith)

and-set : (a b : ℕ) → a < 2 → b < 2 → (min a b == 1) ≡ ((a == 1) && (b == 1))
and-set zero zero h k = refl
and-set zero (suc zero) h k = refl
and-set (suc zero) zero h k = refl
and-set (suc zero) (suc zero) h k = refl
and-set (suc (suc a)) b h k = absurd (omega arith)
and-set a (suc (suc b)) h k = absurd (omega arith)

not-set : (a : ℕ) → a < 2 → ((1 - a) == 1) ≡ not (a == 1)
not-set zero h = refl
not-set (suc zero) h = refl
not-set (suc (suc a)) h = absurd (omega arith)

pub set-or : (m n i : ℕ) → is_set (bit_or m n) i ≡ (is_set m i || is_set n i)
set-or m n i = ap (λ x. x == 1) (bit_at_or m n i) ∙ or-set (bit_at m i) (bit_at n i) (bit_at-lt m i) (bit_at-lt n i)

pub set-and : (m n i : ℕ) → is_set (bit_and m n) i ≡ (is_set m i && is_set n i)
set-and m n i = ap (λ x. x == 1) (bit_at_and m n i) ∙ and-set (bit_at m i) (bit_at n i) (bit_at-lt m i) (bit_at-lt n i)

pub set-not : (m i : ℕ) → m < 2 ^ 64 → i < 64 → is_set (bit_not w64 m) i ≡ not (is_set m i)
set-not m i small h = ap (λ x. x == 1) (bit_at_not w64 m i small h) ∙ not-set (bit_at m i) (bit_at-lt m i)

set-shift : (m k i : ℕ) → is_set (m / 2 ^ k) i ≡ is_set m (i + k)
set-shift m k i = ap (λ x. x % 2 == 1) (shr-shr m k i) ∙ (let e : k + i ≡ i + k = omega arith in ap (is_set m) e)

-- places reached within k places, as bits, and places free that far
pub record Spreads (own gaps k below free : ℕ) : Type 0 where
  pub reached : (i : ℕ) → is_set below i ≡ reaches (is_set own) (is_set gaps) k i
  pub cleared : (i : ℕ) → is_set free i ≡ clear (is_set gaps) k i

or-and-false : (a b : Bool) → a ≡ (a || (b && false))
or-and-false true b = refl
or-and-false false true = refl
or-and-false false false = refl

pub first-spread : (own gaps : ℕ) → Spreads own gaps 1 (own / 2 ^ 1) (gaps / 2 ^ 1)
unfolding reaches clear
first-spread own gaps = record {
  reached = λ i. set-shift own 1 i ∙ or-and-false (is_set own (i + 1)) (is_set gaps (i + 1));
  cleared = λ i. set-shift gaps 1 i ∙ and-true (is_set gaps (i + 1));
}

-- twice as far
next-spread : (own gaps k below free : ℕ) → Spreads own gaps k below free → Spreads own gaps (k + k) (bit_or below (bit_and free (below / 2 ^ k))) (bit_and free (free / 2 ^ k))
next-spread own gaps k below free s = record {
  reached = λ i. set-or below (bit_and free (below / 2 ^ k)) i
      ∙ ap (λ b. is_set below i || b) (set-and free (below / 2 ^ k) i ∙ ap (λ b. is_set free i && b) (set-shift below k i ∙ s.reached (i + k)))
      ∙ ap (λ b. is_set below i || (b && reaches (is_set own) (is_set gaps) k (i + k))) (s.cleared i)
      ∙ ap (λ b. b || (clear (is_set gaps) k i && reaches (is_set own) (is_set gaps) k (i + k))) (s.reached i)
      ∙ sym (reaches-sum (is_set own) (is_set gaps) k k i);
  cleared = λ i. set-and free (free / 2 ^ k) i
      ∙ ap (λ b. is_set free i && b) (set-shift free k i ∙ s.cleared (i + k))
      ∙ ap (λ b. b && clear (is_set gaps) k (i + k)) (s.cleared i)
      ∙ sym (clear-sum (is_set gaps) k k i);
}

-- the same of what a step gives
pub spread-on : (own gaps k below free below' free' : ℕ) → Spreads own gaps k below free → below' ≡ bit_or below (bit_and free (below / 2 ^ k)) → free' ≡ bit_and free (free / 2 ^ k) → Spreads own gaps (k + k) below' free'
spread-on own gaps k below free below' free' s b o = rw (b, o) (next-spread own gaps k below free s)
