-- a mask without its lowest bit
use Rattle.std.proofs.Common.{◌≡◌, ◌≢◌, ℕ, zero, suc, ◌+◌, ◌-◌, ◌/◌, ◌%◌, ◌^◌, ◌<◌, ◌≤◌, Bool, true, false, refl, sym, ap, ◌∙◌, arith, List, [], ◌∷◌, ◌⊎◌, inl, inr, min, bit_and, w16, eq-eqb, cond}
use Rattle.std.specs.Prelude.{filter, ◌==◌, ◌++◌, if◌then◌else◌}
use Rattle.std.specs.Int.{bit_at, trailing_zeros}
use Rattle.std.proofs.lemmas.Nat.Bits.{bit_at_and, bit_at-lt, bit_at-trailing_zeros, bit_at-suc}
use Rattle.std.proofs.lemmas.Bool.{eqb-true, cases_lt}
use Rattle.std.proofs.lemmas.Bool.Decides.{eqb_tells}
use Rattle.dd_cards.specs.Ranks.{lowest_ranks, all_ranks}
use Rattle.dd_cards.specs.Masks.{IsMask, in_mask, ranks_of}
use Rattle.dd_cards.proofs.Masks.{DropsRank, two_le, le_14}

-- t is the place of the lowest bit
record IsLowest (m t : ℕ) : Type 0 where
  set : bit_at m t ≡ 1
  none : (i : ℕ) → i < t → bit_at m i ≡ 0

-- half of it has its lowest bit one place lower
half-lowest : (m t : ℕ) → IsLowest m (suc t) → IsLowest (m / 2) t
half-lowest m t low = record { set = sym (bit_at-suc m t) ∙ low.set; none = λ j less. sym (bit_at-suc m j) ∙ low.none (suc j) (omega (arith, less)) }

-- .. and the number before is the same of the half
half-before : (m t : ℕ) → IsLowest m (suc t) → (m - 1) / 2 ≡ m / 2 - 1
half-before m t low = (let even : m / 1 % 2 ≡ 0 = low.none zero (omega arith) in omega (arith, even))

-- the number before has no bit at the lowest place
before-at : (t m : ℕ) → IsLowest m t → bit_at (m - 1) t ≡ 0
before-at zero m low = (let s : m / 1 % 2 ≡ 1 = low.set in omega (arith, s))
before-at (suc t) m low = bit_at-suc (m - 1) t ∙ ap (λ x. bit_at x t) (half-before m t low) ∙ before-at t (m / 2) (half-lowest m t low)

-- .. and the same bits above it
before-above : (t m i : ℕ) → IsLowest m t → t < i → bit_at (m - 1) i ≡ bit_at m i
before-above zero m zero low h = absurd (omega (arith, h))
before-above zero m (suc i) low h =
    let s : m / 1 % 2 ≡ 1 = low.set in
    let half : (m - 1) / 2 ≡ m / 2 = omega (arith, s) in
    bit_at-suc (m - 1) i ∙ ap (λ x. bit_at x i) half ∙ sym (bit_at-suc m i)
before-above (suc t) m zero low h = absurd (omega (arith, h))
before-above (suc t) m (suc i) low h =
    bit_at-suc (m - 1) i ∙ ap (λ x. bit_at x i) (half-before m t low) ∙ before-above t (m / 2) i (half-lowest m t low) (omega (arith, h)) ∙ sym (bit_at-suc m i)

-- without its lowest bit a mask lacks that rank alone
without-lowest : (m t : ℕ) → IsLowest m t → DropsRank m (bit_and m (m - 1)) t
without-lowest m t low = record {
  gone = bit_at_and m (m - 1) t ∙ rw (before-at t m low) (omega arith);
  others = λ q ne. bit_at_and m (m - 1) q ∙ elim (cases_lt q t) [
    | inl less ↦ rw (low.none q less) (omega arith)
    | inr more ↦ rw (before-above t m q low (omega (arith, more, ne))) (omega arith)
  ];
}

-- the ranks of a mask, from the highest down, with the lowest one apart
apart : (m n t k : ℕ) → IsLowest m t → DropsRank m n t → 2 ≤ t → t < k + 2
    → filter (in_mask m) (lowest_ranks k) ≡ filter (in_mask n) (lowest_ranks k) ++ t ∷ []
unfolding lowest_ranks
apart m n t zero low lacks from to = absurd (omega (arith, from, to))
apart m n t (suc k) low lacks from to = elim (eqb_tells (k + 2) t) [
  | inl is ↦ here is.1
  | inr other ↦ (
      let less : t < k + 2 = (let ne = other.1 in omega (arith, to, ne)) in
      let ih = apart m n t k low lacks from less in
      rw (lacks.others (k + 2) other.1) (onwards (in_mask m (k + 2)) ih))
]
  where
    none : (x : ℕ → Bool) (j : ℕ) → ((q : ℕ) → q < j + 2 → x q ≡ false) → filter x (lowest_ranks j) ≡ []
    none x zero lacks = refl
    none x (suc j) lacks = rw (lacks (j + 2) (omega arith)) (none x j (λ q less. lacks q (omega (arith, less))))

    no-bit : (x q : ℕ) → bit_at x q ≡ 0 → in_mask x q ≡ false
    no-bit x q e = rw e refl

    here : k + 2 ≡ t → filter (in_mask m) (lowest_ranks (suc k)) ≡ filter (in_mask n) (lowest_ranks (suc k)) ++ t ∷ []
    here e =
        let under = λ (q : ℕ) (less : q < k + 2). low.none q (omega (arith, less, e)) in
        let other = λ (q : ℕ) (less : q < k + 2). lacks.others q (λ same. omega (arith, less, e, same)) ∙ under q less in
        rw (ap (λ x. bit_at m x) e ∙ low.set, ap (λ x. bit_at n x) e ∙ lacks.gone, none (in_mask m) k (λ q less. no-bit m q (under q less)), none (in_mask n) k (λ q less. no-bit n q (other q less)))
        (ap (λ x. x ∷ []) e)

    onwards : (b : Bool) → filter (in_mask m) (lowest_ranks k) ≡ filter (in_mask n) (lowest_ranks k) ++ t ∷ []
        → cond b ((k + 2) ∷ filter (in_mask m) (lowest_ranks k)) (filter (in_mask m) (lowest_ranks k)) ≡ cond b ((k + 2) ∷ filter (in_mask n) (lowest_ranks k)) (filter (in_mask n) (lowest_ranks k)) ++ t ∷ []
    onwards true ih = ap (λ l. (k + 2) ∷ l) ih
    onwards false ih = ih

lowest-of : (m : ℕ) → 0 < m → m < 2 ^ 15 → IsLowest m (trailing_zeros w16 m)
lowest-of m some small = (let h = bit_at-trailing_zeros w16 m some (omega (arith, small)) in record { set = h.1; none = h.2 })

-- the lowest rank of a mask is a rank
pub lowest-rank : (m : ℕ) → IsMask m → 0 < m → (2 ≤ trailing_zeros w16 m) × (trailing_zeros w16 m ≤ 14)
lowest-rank m valid some =
    let low = lowest-of m some valid.0 in
    let t = trailing_zeros w16 m in
    (two_le m t valid low.set, let h = le_14 m t valid low.set in omega (arith, h))

-- without its lowest bit a mask has all ranks but the lowest, which is the last of the list
pub ranks_of-lowest : (m : ℕ) → IsMask m → 0 < m → ranks_of m ≡ ranks_of (bit_and m (m - 1)) ++ trailing_zeros w16 m ∷ []
unfolding ranks_of all_ranks
ranks_of-lowest m valid some =
    let low = lowest-of m some valid.0 in
    let t = trailing_zeros w16 m in
    let rank = lowest-rank m valid some in
    apart m (bit_and m (m - 1)) t 13 low (without-lowest m t low) rank.0 (omega (arith, rank.1))
