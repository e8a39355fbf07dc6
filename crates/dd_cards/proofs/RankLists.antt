-- what a mask's operations do to the list of its ranks
use Rattle.std.proofs.Common.{◌≡◌, ℕ, zero, suc, ◌+◌, ◌-◌, ◌*◌, ◌%◌, ◌^◌, ◌<◌, ◌≤◌, Bool, true, false, cond, refl, sym, ap, ◌∙◌, arith, List, [], ◌∷◌, length, Some, None, subst, nat_eq, max, min, bit_and, bit_or, w16, inl, inr, ◌⊎◌, eq-eqb, zero-add}
use Rattle.std.specs.Prelude.{filter, find, slice_get, ◌==◌, ◌||◌, ◌&&◌, nat_lt, count_ones}
use mathlib.Core.Bool.{not}
use Rattle.std.specs.Int.{bit_at, bit_not}
use Rattle.std.proofs.lemmas.Nat.{ones_cat, mod_below, pow_pos}
use Rattle.std.proofs.Math.Nat.{mod-eq_of_lt}
use Rattle.dd_cards.specs.MaskLaws.{digit}
use Rattle.std.proofs.lemmas.Nat.Bits.{bit_at-lt, bit_at_and, bit_at_or}
use Rattle.std.proofs.lemmas.Bool.{cases_lt, eqb-true, lt-ltb, le-ltb, or_left, or_right}
use Rattle.std.proofs.lemmas.Bool.Decides.{eqb_tells}
use Rattle.std.proofs.lemmas.Map.Views.{any-filter_same}
use Rattle.dd_cards.specs.Ranks.{lowest_ranks, all_ranks, has_rank, with_rank, IsRank}
use Rattle.dd_cards.specs.Masks.{IsMask, in_mask, ranks_of}
use Rattle.dd_cards.proofs.Masks.{Holds, AddsRank, DropsRank, IsHighest, IsPartAbove, AddsRank-or, DropsRank-and, IsPartAbove-and, below_bit, above_bit, two_le, le_14}
use Rattle.dd_cards.proofs.General.{and-false, and-true, filter-filter}
use Rattle.std.proofs.lemmas.List.Elements.{filter_agree}

-- the first of what passes
pub first-filter : {X : Type 0} (p : X → Bool) (xs : List X) → slice_get (filter p xs) 0 ≡ find p xs
first-filter p [] = refl
first-filter p (x ∷ xs) =
    elim (p x) as (λ b. slice_get (cond b (x ∷ filter p xs) (filter p xs)) 0 ≡ cond b (Some x) (find p xs)) [ true ↦ refl | false ↦ first-filter p xs ]

-- ---- the ranks
pub has_rank-lowest_ranks : (k q : ℕ) → 2 ≤ q → q < k + 2 → has_rank (lowest_ranks k) q ≡ true
unfolding lowest_ranks
has_rank-lowest_ranks zero q low high = absurd (omega arith)
has_rank-lowest_ranks (suc k) q low high =
    elim (eqb_tells (k + 2) q) [ inl same ↦ rw same.0 refl | inr other ↦ (let less : q < k + 2 = omega arith in rw (other.0, has_rank-lowest_ranks k q low less) refl) ]

-- the list has what the mask has
pub has_rank-ranks_of : (m q : ℕ) → IsMask m → has_rank (ranks_of m) q ≡ in_mask m q
unfolding ranks_of all_ranks
has_rank-ranks_of m q valid =
    any-filter_same (λ x. x == q) (in_mask m) (in_mask m q) (λ x e. ap (in_mask m) (eqb-true x q e)) (lowest_ranks 13)
    ∙ elim (in_mask m q) as (λ b. in_mask m q ≡ b → (b && has_rank (lowest_ranks 13) q) ≡ b) [
      | true ↦ λ e. (let has : Holds m q = eqb-true _ _ e in has_rank-lowest_ranks 13 q (two_le m q valid has) (let h = le_14 m q valid has in omega arith))
      | false ↦ λ e. refl
    ] refl

-- no bits, no ranks
pub ranks_of-zero : ranks_of 0 ≡ []
unfolding ranks_of all_ranks lowest_ranks
ranks_of-zero = refl

-- n has the ranks of m that pass the test
ranks_of-part : (m n : ℕ) (test : ℕ → Bool) → ((q : ℕ) → ((test q ≡ true) × (bit_at n q ≡ bit_at m q)) ⊎ ((test q ≡ false) × (bit_at n q ≡ 0))) → ranks_of n ≡ filter test (ranks_of m)
unfolding ranks_of
ranks_of-part m n test each =
    filter_agree (in_mask n) (λ q. in_mask m q && test q) (λ q. elim (each q) [
      | inl keep ↦ rw (keep.0, keep.1) (and-true (in_mask m q))
      | inr drop ↦ rw (drop.0, drop.1) (and-false (in_mask m q))
    ]) all_ranks
    ∙ sym (filter-filter test (in_mask m) all_ranks)

-- setting a rank's bit puts the rank in
pub ranks_of-insert : (m r : ℕ) → r ≤ 14 → IsMask m → ranks_of (bit_or m (1 * 2 ^ r % 65536)) ≡ with_rank (ranks_of m) r
unfolding ranks_of
ranks_of-insert m r h valid =
    let n : ℕ = bit_or m (1 * 2 ^ r % 65536) in
    let adds : AddsRank m n r = AddsRank-or m r h in
    filter_agree (in_mask n) (λ q. (q == r) || has_rank (ranks_of m) q) (λ q. rw (has_rank-ranks_of m q valid) (elim (eqb_tells q r) [
      | inl same ↦ rw (same.0, same.1, adds.has) refl
      | inr other ↦ rw (other.0, adds.others q other.1) refl
    ])) all_ranks

-- clearing a rank's bit takes the rank out
pub ranks_of-remove : (m r : ℕ) → r ≤ 14 → IsMask m → ranks_of (bit_and m (bit_not w16 (1 * 2 ^ r % 65536))) ≡ filter (λ q. not (q == r)) (ranks_of m)
ranks_of-remove m r h valid =
    let n : ℕ = bit_and m (bit_not w16 (1 * 2 ^ r % 65536)) in
    let drops : DropsRank m n r = DropsRank-and m r h valid.0 in
    ranks_of-part m n (λ q. not (q == r)) (λ q. elim (eqb_tells q r) [
      | inl same ↦ inr (ap not same.0, ap (bit_at n) same.1 ∙ drops.gone)
      | inr other ↦ inl (ap not other.0, drops.others q other.1)
    ])

-- the bits below r are the ranks below r
pub ranks_of-below : (m r : ℕ) → r ≤ 14 → ranks_of (bit_and m (1 * 2 ^ r % 65536 - 1)) ≡ filter (λ q. nat_lt q r) (ranks_of m)
ranks_of-below m r h =
    ranks_of-part m (bit_and m (1 * 2 ^ r % 65536 - 1)) (λ q. nat_lt q r) (λ q. elim (cases_lt q r) [
      | inl low ↦ inl (lt-ltb q r low, below_bit m r q h low)
      | inr high ↦ inr (le-ltb q r high, above_bit m r q h high)
    ])

-- the bits above r are the ranks above r
pub ranks_of-above : (m r : ℕ) → r ≤ 14 → IsMask m → ranks_of (bit_and m (65535 * 2 ^ (r + 1) % 65536)) ≡ filter (λ q. nat_lt r q) (ranks_of m)
ranks_of-above m r h valid =
    let n : ℕ = bit_and m (65535 * 2 ^ (r + 1) % 65536) in
    let part : IsPartAbove m n r = IsPartAbove-and m r h valid.0 in
    ranks_of-part m n (λ q. nat_lt r q) (λ q. elim (cases_lt r q) [
      | inl above ↦ inl (lt-ltb r q above, part.high q above)
      | inr low ↦ inr (le-ltb r q low, part.low q low)
    ])

-- the bits of either mask are the ranks of either
pub ranks_of-or : (m n : ℕ) → IsMask m → IsMask n → ranks_of (bit_or m n) ≡ filter (λ q. has_rank (ranks_of m) q || has_rank (ranks_of n) q) all_ranks
unfolding ranks_of
ranks_of-or m n valid valid' =
    filter_agree (in_mask (bit_or m n)) (λ q. has_rank (ranks_of m) q || has_rank (ranks_of n) q) (λ q. rw (has_rank-ranks_of m q valid, has_rank-ranks_of n q valid', bit_at_or m n q) (either (bit_at m q) (bit_at n q) (bit_at-lt m q) (bit_at-lt n q))) all_ranks
  where
    either : (a b : ℕ) → a < 2 → b < 2 → (max a b == 1) ≡ ((a == 1) || (b == 1))
    either zero zero h k = refl
    either zero (suc zero) h k = refl
    either (suc zero) zero h k = refl
    either (suc zero) (suc zero) h k = refl
    either (suc (suc a)) b h k = absurd (omega arith)
    either a (suc (suc b)) h k = absurd (omega arith)

-- the bits of both masks are the ranks of both
pub ranks_of-and : (m n : ℕ) → IsMask n → ranks_of (bit_and m n) ≡ filter (has_rank (ranks_of n)) (ranks_of m)
unfolding ranks_of
ranks_of-and m n valid =
    filter_agree (in_mask (bit_and m n)) (λ q. in_mask m q && has_rank (ranks_of n) q) (λ q. rw (has_rank-ranks_of n q valid, bit_at_and m n q) (both (bit_at m q) (bit_at n q) (bit_at-lt m q) (bit_at-lt n q))) all_ranks
    ∙ sym (filter-filter (has_rank (ranks_of n)) (in_mask m) all_ranks)
  where
    both : (a b : ℕ) → a < 2 → b < 2 → (min a b == 1) ≡ ((a == 1) && (b == 1))
    both zero zero h k = refl
    both zero (suc zero) h k = refl
    both (suc zero) zero h k = refl
    both (suc zero) (suc zero) h k = refl
    both (suc (suc a)) b h k = absurd (omega arith)
    both a (suc (suc b)) h k = absurd (omega arith)

-- the highest rank that passes is the first found
find_first : (k : ℕ) (p : ℕ → Bool) (j : ℕ) → 2 ≤ j → j < k + 2 → p j ≡ true → ((q : ℕ) → j < q → p q ≡ false) → find p (lowest_ranks k) ≡ Some j
unfolding lowest_ranks
find_first zero p j low high has none = absurd (omega arith)
find_first (suc k) p j low high has none =
    elim (eqb_tells (k + 2) j) [
      | inl same ↦ rw (same.1, has) refl
      | inr other ↦ (let less : j < k + 2 = omega arith in rw (none (k + 2) less) (find_first k p j low less has none))
    ]

-- the highest bit set is the first rank
pub first-ranks_of : (m r : ℕ) → IsMask m → IsHighest m r → slice_get (ranks_of m) 0 ≡ Some r
unfolding ranks_of all_ranks
first-ranks_of m r valid top =
    let has : Holds m r = top.member in
    first-filter (in_mask m) (lowest_ranks 13)
    ∙ find_first 13 (in_mask m) r (two_le m r valid has) (let h = le_14 m r valid has in omega arith) (eq-eqb _ _ has)
    (λ q above. elim (eqb_tells (bit_at m q) 1) [ inl same ↦ absurd (let le = top.top q same.1 in omega arith) | inr other ↦ other.0 ])

-- the k lowest ranks are below each rank after them
under-next : (k r : ℕ) (test : ℕ → Bool) → k + 2 ≤ r → filter (λ q. nat_lt q r) (filter test (lowest_ranks k)) ≡ filter test (lowest_ranks k)
unfolding lowest_ranks
under-next zero r test h = refl
under-next (suc k) r test h = at (test (k + 2)) (under-next k r test (omega (arith, h)))
  where
    under : nat_lt (k + 2) r ≡ true
    under = lt-ltb (k + 2) r (omega (arith, h))

    at : (b : Bool) → filter (λ q. nat_lt q r) (filter test (lowest_ranks k)) ≡ filter test (lowest_ranks k)
        → filter (λ q. nat_lt q r) (cond b ((k + 2) ∷ filter test (lowest_ranks k)) (filter test (lowest_ranks k))) ≡ cond b ((k + 2) ∷ filter test (lowest_ranks k)) (filter test (lowest_ranks k))
    at true ih = rw (under, ih) refl
    at false ih = ih

-- the first rank that passes, and those that pass below it, are all
first-below : (k r : ℕ) (test : ℕ → Bool) → slice_get (filter test (lowest_ranks k)) 0 ≡ Some r → filter test (lowest_ranks k) ≡ r ∷ filter (λ q. nat_lt q r) (filter test (lowest_ranks k))
unfolding lowest_ranks
first-below zero r test first = absurd (let e : None ≡ Some r = first in cc)
first-below (suc k) r test first = go (test (k + 2)) refl (first-below k r test)
  where
    over : nat_lt (k + 2) (k + 2) ≡ false
    over = le-ltb (k + 2) (k + 2) (omega arith)

    go : (b : Bool) → test (k + 2) ≡ b → (slice_get (filter test (lowest_ranks k)) 0 ≡ Some r → filter test (lowest_ranks k) ≡ r ∷ filter (λ q. nat_lt q r) (filter test (lowest_ranks k)))
        → filter test (lowest_ranks (suc k)) ≡ r ∷ filter (λ q. nat_lt q r) (filter test (lowest_ranks (suc k)))
    go true e ih =
        let head : Some (k + 2) ≡ Some r = rw e at first in
        let same : k + 2 ≡ r = cc in
        subst (λ x. filter test (lowest_ranks (suc k)) ≡ x ∷ filter (λ q. nat_lt q x) (filter test (lowest_ranks (suc k)))) same (rw (e, over, under-next k (k + 2) test (omega arith)) refl)
    go false e ih = rw e (ih (rw e at first))

-- the highest rank of a mask, and those below it, are all
pub first-of-ranks : (m r : ℕ) → slice_get (ranks_of m) 0 ≡ Some r → ranks_of m ≡ r ∷ filter (λ q. nat_lt q r) (ranks_of m)
unfolding ranks_of all_ranks
first-of-ranks m r first = first-below 13 r (in_mask m) first

-- one longer where the test holds
pub length-cond : (b : Bool) (r : ℕ) (ranks : List ℕ) → length (cond b (r ∷ ranks) ranks) ≡ cond b 1 0 + length ranks
length-cond true r ranks = omega arith
length-cond false r ranks = sym (zero-add (length ranks))

-- a bit counts one where it is set
pub digit_count : (d : ℕ) → d < 2 → cond (nat_eq d 1) 1 0 ≡ count_ones d
unfolding lib.Count.ones
digit_count zero h = refl
digit_count (suc zero) h = refl
digit_count (suc (suc d)) h = absurd (omega arith)

-- the ranks counted are the bits set, up to bit k + 2
length-below : (m k : ℕ) → m % 4 ≡ 0 → length (filter (in_mask m) (lowest_ranks k)) ≡ count_ones (m % 2 ^ (k + 2))
unfolding lowest_ranks lib.Count.ones
length-below m zero h = rw h refl
length-below m (suc k) h =
    let kept : List ℕ = filter (in_mask m) (lowest_ranks k) in
    let same : suc k + 2 ≡ k + 2 + 1 = omega arith in
    length-cond (in_mask m (k + 2)) (k + 2) kept
    ∙ ap (λ x. x + length kept) (digit_count (bit_at m (k + 2)) (bit_at-lt m (k + 2)))
    ∙ ap (λ x. count_ones (bit_at m (k + 2)) + x) (length-below m k h)
    ∙ sym (ones_cat (k + 2) (bit_at m (k + 2)) (m % 2 ^ (k + 2)) (mod_below m (2 ^ (k + 2)) (pow_pos (k + 2))))
    ∙ ap count_ones (sym (digit m (k + 2)))
    ∙ ap (λ x. count_ones (m % 2 ^ x)) (sym same)

-- a holding has as many ranks as its mask has bits set
pub length-ranks_of : (m : ℕ) → IsMask m → length (ranks_of m) ≡ count_ones m
unfolding ranks_of all_ranks
length-ranks_of m valid = length-below m 13 valid.1 ∙ ap count_ones (mod-eq_of_lt valid.0)

-- every real rank is among the thirteen
pub has-all : (r : ℕ) → IsRank r → has_rank all_ranks r ≡ true
unfolding all_ranks
has-all r real = has_rank-lowest_ranks 13 r real.0 (omega (arith, real.1))

-- the members of a part
pub has-filter : (p : ℕ → Bool) (xs : List ℕ) (q : ℕ) → has_rank (filter p xs) q ≡ (p q && has_rank xs q)
has-filter p xs q = any-filter_same (λ x. x == q) p (p q) (λ x e. ap p (eqb-true x q e)) xs

-- two tests that agree on the ranks of a list
pub filter-members : (f g : ℕ → Bool) (ranks : List ℕ) → ((q : ℕ) → has_rank ranks q ≡ true → f q ≡ g q) → filter f ranks ≡ filter g ranks
filter-members f g [] each = refl
filter-members f g (r ∷ ranks) each =
    let here : f r ≡ g r = each r (or_left (r == r) (has_rank ranks r) (eq-eqb r r refl)) in
    let rest = filter-members f g ranks (λ q h. each q (or_right (r == q) (has_rank ranks q) h)) in
    rw (here, rest) refl
