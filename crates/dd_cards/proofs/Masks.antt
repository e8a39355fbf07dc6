-- what the bit operations of a holding do to single bits
use Rattle.std.proofs.Common.{◌≡◌, ◌≢◌, ℕ, zero, suc, ◌+◌, ◌-◌, ◌*◌, ◌/◌, ◌%◌, ◌^◌, ◌<◌, ◌≤◌, nat_eq, refl, sym, ap, ◌∙◌, arith, bit_and, bit_or, w16, ◌⊎◌, inl, inr, min}
use mathlib.Core.Bool.{not}
use Rattle.std.specs.Int.{bit_at, bit_not, leading_zeros}
use Rattle.std.proofs.lemmas.Nat.{one_shl, or_lt, pow_pos, or_mod, and_le_l, and_mod, pow-add, leading_top, pow_below, div_below, le-div}
use Rattle.std.proofs.Math.Nat.{pow-suc}
use Rattle.std.proofs.lemmas.Bool.{cases_lt}
use Rattle.std.proofs.lemmas.Nat.Bits.{and_pow, bit_at-lt, bit_at_set_same, bit_at_set_other, bit_at_clear_same, bit_at_clear_other, bit_at_above, bit_at_and, bit_at_ones, bit_at_ones_above, ones_shl, bit_at_mask_inside, bit_at_mask_below}
use Rattle.std.proofs.lemmas.Bool.Decides.{nat_tests}
use Rattle.dd_cards.specs.Masks.{IsMask}

-- the rank's bit is set
abbrev pub Holds : ℕ → ℕ → Type 0
Holds m r = bit_at m r ≡ 1

-- r is the highest rank of the holding
pub record IsHighest (m r : ℕ) : Type 0 where
  pub member : Holds m r
  pub top : (q : ℕ) → Holds m q → q ≤ r

-- the new holding has the rank, and every other rank as before
pub record AddsRank (old new r : ℕ) : Type 0 where
  pub has : Holds new r
  pub others : (q : ℕ) → q ≢ r → bit_at new q ≡ bit_at old q

-- the new holding lacks the rank, and has every other rank as before
pub record DropsRank (old new r : ℕ) : Type 0 where
  pub gone : bit_at new r ≡ 0
  pub others : (q : ℕ) → q ≢ r → bit_at new q ≡ bit_at old q

-- the part has the ranks above r and no others
pub record IsPartAbove (m part r : ℕ) : Type 0 where
  pub low : (q : ℕ) → q ≤ r → bit_at part q ≡ 0
  pub high : (q : ℕ) → r < q → bit_at part q ≡ bit_at m q

-- a bit times a power of two is zero just where the bit is
pub bit_times : (b p : ℕ) → b < 2 → 0 < p → not (nat_eq (b * p) 0) ≡ nat_eq b 1
bit_times b p h g = grind (arith, nat_tests)

-- one bit, cut out of a mask
pub and_bit : (m r : ℕ) → r < 16 → bit_and m (1 * 2 ^ r % 65536) ≡ bit_at m r * 2 ^ r
and_bit m r h = ap (bit_and m) (one_shl r 16 h) ∙ and_pow m r

-- the test `m & 1 << r != 0`
pub has_test : (m r : ℕ) → r < 16 → not (nat_eq (bit_and m (1 * 2 ^ r % 65536)) 0) ≡ nat_eq (bit_at m r) 1
has_test m r h = ap (λ x. not (nat_eq x 0)) (and_bit m r h) ∙ bit_times (bit_at m r) (2 ^ r) (bit_at-lt m r) (pow_pos r)

-- the bits of ranks are multiples of 4
mod4_pow : (r : ℕ) → 2 ≤ r → 2 ^ r % 4 ≡ 0
mod4_pow r h =
    let e : r ≡ (r - 2) + 2 = omega arith in
    rw e (rw (pow-add 2 (r - 2) 2) (omega arith))

-- a rank's bit may be set
pub IsMask-or : (m r : ℕ) → 2 ≤ r → r ≤ 14 → IsMask m → IsMask (bit_or m (1 * 2 ^ r % 65536))
IsMask-or m r low high h =
    let within : r < 16 = omega arith in
    let small : 2 ^ r < 2 ^ 15 = pow_below r 15 (omega arith) in
    rw (one_shl r 16 within) (or_lt 15 m (2 ^ r) h.0 small, or_mod m (2 ^ r) 2 ∙ ap (bit_or (m % 4)) (mod4_pow r low) ∙ rw h.1 refl)

-- the bits of two masks may be set together
pub IsMask-both : (m n : ℕ) → IsMask m → IsMask n → IsMask (bit_or m n)
IsMask-both m n h k = (or_lt 15 m n h.0 k.0, or_mod m n 2 ∙ ap (bit_or (m % 4)) k.1 ∙ rw h.1 refl)

-- bits may be cleared
pub IsMask-and : (m n : ℕ) → IsMask m → IsMask (bit_and m n)
IsMask-and m n h =
    let le : bit_and m n ≤ m = and_le_l m n in
    (omega arith, and_mod m n 2 ∙ ap (λ x. bit_and x (n % 4)) h.1)

-- setting a rank's bit adds the rank
pub AddsRank-or : (m r : ℕ) → r ≤ 14 → AddsRank m (bit_or m (1 * 2 ^ r % 65536)) r
AddsRank-or m r h = record { has = bit_at_set_same w16 m r (omega arith); others = λ q ne. bit_at_set_other w16 m r (omega arith) q ne }

-- clearing one bit keeps the others
clear_other : (m r q : ℕ) → r ≤ 14 → m < 2 ^ 15 → q ≢ r → (q < 16) ⊎ (16 ≤ q) → bit_at (bit_and m (bit_not w16 (1 * 2 ^ r % 65536))) q ≡ bit_at m q
clear_other m r q h small ne (inl low) = bit_at_clear_other w16 m r (omega arith) q low ne
clear_other m r q h small ne (inr high) =
    let n : ℕ = bit_and m (bit_not w16 (1 * 2 ^ r % 65536)) in
    let less : n ≤ m = and_le_l m (bit_not w16 (1 * 2 ^ r % 65536)) in
    bit_at_above n 16 q (omega arith) high ∙ sym (bit_at_above m 16 q (omega arith) high)

-- clearing a rank's bit drops the rank
pub DropsRank-and : (m r : ℕ) → r ≤ 14 → m < 2 ^ 15 → DropsRank m (bit_and m (bit_not w16 (1 * 2 ^ r % 65536))) r
DropsRank-and m r h small =
    record {
      gone = bit_at_clear_same w16 m r (omega arith);
      others = λ q ne. clear_other m r q h small ne (cases_lt q 16);
    }

-- a number between 2 ^ j and 2 ^ (j + 1) has the bit j
pub top_bit : (m j : ℕ) → 2 ^ j ≤ m → m < 2 ^ suc j → bit_at m j ≡ 1
top_bit m j low high =
    let p : 0 < 2 ^ j = pow_pos j in
    let twice : m < 2 * 2 ^ j = omega (arith, pow-suc 2 j) in
    let less : m / 2 ^ j < 2 = div_below m (2 ^ j) 2 p twice in
    let more : 1 ≤ m / 2 ^ j = le-div 1 m (2 ^ j) p (omega arith) in
    let one : m / 2 ^ j ≡ 1 = omega arith in
    rw one refl

-- a number between 2 ^ j and 2 ^ (j + 1) has no bit above j
pub highest_at : (m j : ℕ) → 2 ^ j ≤ m → m < 2 ^ suc j → IsHighest m j
highest_at m j low high =
    record {
      member = top_bit m j low high;
      top = λ q has. elim (cases_lt j q) [ inl above ↦ (let none : bit_at m q ≡ 0 = bit_at_above m (suc j) q high (omega arith) in omega (arith, none, has)) | inr le ↦ le ];
    }

-- the highest rank, by the zeros above its bit
pub IsHighest-leading : (m : ℕ) → 0 < m → m < 2 ^ 15 → IsHighest m (15 - leading_zeros w16 m)
IsHighest-leading m pos small =
    let t = leading_top 16 m pos (omega arith) in
    let e : 15 - leading_zeros w16 m ≡ t.0 = omega (arith, t.1) in
    rw e (highest_at m t.0 t.2 t.3)

-- a bit times a power of two is zero just where the bit is zero
bit_times_none : (b p : ℕ) → b < 2 → 0 < p → nat_eq (b * p) 0 ≡ nat_eq b 0
bit_times_none b p h g = grind (arith, nat_tests)

-- the test `m & 1 << r == 0`, by the bit
pub lacks_test : (m r : ℕ) → r < 16 → nat_eq (bit_and m (1 * 2 ^ r % 65536)) 0 ≡ nat_eq (bit_at m r) 0
lacks_test m r h = ap (λ x. nat_eq x 0) (and_bit m r h) ∙ bit_times_none (bit_at m r) (2 ^ r) (bit_at-lt m r) (pow_pos r)

-- a holding's ranks are 2 and above
pub two_le : (m q : ℕ) → IsMask m → Holds m q → 2 ≤ q
two_le m zero h has = absurd (let e : m / 1 % 2 ≡ 1 = has in omega (arith, e, h.1))
two_le m (suc zero) h has = absurd (let e : m / 2 % 2 ≡ 1 = has in omega (arith, e, h.1))
two_le m (suc (suc q)) h has = omega arith

-- a holding's ranks are 14 and below
pub le_14 : (m q : ℕ) → IsMask m → Holds m q → q ≤ 14
le_14 m q h has = elim (cases_lt q 15) [ inl low ↦ omega arith | inr high ↦ absurd (let none : bit_at m q ≡ 0 = bit_at_above m 15 q h.0 high in omega (arith, none, has)) ]

-- the ones below bit r keep the lower bits
pub below_bit : (m r q : ℕ) → r ≤ 14 → q < r → bit_at (bit_and m (1 * 2 ^ r % 65536 - 1)) q ≡ bit_at m q
below_bit m r q h low =
    rw (one_shl r 16 (omega arith)) (bit_at_and m (2 ^ r - 1) q ∙ ap (min (bit_at m q)) (bit_at_ones r q low) ∙ (let b = bit_at-lt m q in omega (arith, b)))

-- .. and clear the bits from r on
pub above_bit : (m r q : ℕ) → r ≤ 14 → r ≤ q → bit_at (bit_and m (1 * 2 ^ r % 65536 - 1)) q ≡ 0
above_bit m r q h high =
    rw (one_shl r 16 (omega arith)) (bit_at_and m (2 ^ r - 1) q ∙ ap (min (bit_at m q)) (bit_at_ones_above r q high) ∙ omega arith)

-- ones from bit k on keep the bits from k on
pub part_bit : (m k q : ℕ) → k ≤ 15 → m < 2 ^ 15 → (q < 16) ⊎ (16 ≤ q) → k ≤ q → bit_at (bit_and m (65535 * 2 ^ k % 65536)) q ≡ bit_at m q
part_bit m k q h small (inl low) high =
    rw (ones_shl 16 k (omega arith)) (bit_at_and m (65536 - 2 ^ k) q ∙ ap (min (bit_at m q)) (bit_at_mask_inside k 16 q high low) ∙ (let b = bit_at-lt m q in omega (arith, b)))
part_bit m k q h small (inr above) high =
    let n : ℕ = bit_and m (65535 * 2 ^ k % 65536) in
    let less : n ≤ m = and_le_l m (65535 * 2 ^ k % 65536) in
    bit_at_above n 16 q (omega arith) above ∙ sym (bit_at_above m 16 q (omega arith) above)

-- `m & MAX << r + 1` has the ranks above r
pub IsPartAbove-and : (m r : ℕ) → r ≤ 14 → m < 2 ^ 15 → IsPartAbove m (bit_and m (65535 * 2 ^ (r + 1) % 65536)) r
IsPartAbove-and m r h small =
    record {
      low = λ q le. rw (ones_shl 16 (r + 1) (omega arith)) (bit_at_and m (65536 - 2 ^ (r + 1)) q ∙ ap (min (bit_at m q)) (bit_at_mask_below (r + 1) 16 q (omega arith)) ∙ omega arith);
      high = λ q less. part_bit m (r + 1) q (omega arith) small (cases_lt q 16) (omega arith);
    }

-- the test `m & 1 << r == 0`
pub absent_test : (m r : ℕ) → r < 16 → nat_eq (bit_and m (1 * 2 ^ r % 65536)) 0 ≡ not (nat_eq (bit_at m r) 1)
absent_test m r h = lacks_test m r h ∙ (let b = bit_at-lt m r in zero_or_one (bit_at m r) b)
  where
    zero_or_one : (b : ℕ) → b < 2 → nat_eq b 0 ≡ not (nat_eq b 1)
    zero_or_one b h = grind (arith, nat_tests)
