-- four lanes of sixteen bits in one number
use Rattle.std.proofs.Common.{◌≡◌, ℕ, zero, suc, ◌+◌, ◌-◌, ◌*◌, ◌/◌, ◌%◌, ◌^◌, ◌<◌, ◌≤◌, refl, sym, ap, ◌∙◌, subst, arith, List, [], ◌∷◌, get_or, bit_and, min}
use lib.Lanes.{zip2}
use Rattle.std.specs.Int.{bit_at}
use mathlib.Core.Path.{ap₂}
use Rattle.std.proofs.lemmas.Nat.{mod_below, shr-shr, and_shr, and_mod, and_mask, and_le_l, and_le_r, and_assoc}
use Rattle.std.proofs.lemmas.Nat.Bits.{bit_at-lt, bit_at_and, bit_at_ones}
use Rattle.std.specs.Int.Bits.{and_zero_r}
use Rattle.std.proofs.Math.Nat.{pow-le-pow_right, add-mul, mul_assoc}
use Rattle.dd_cards.specs.declared.suit.Suit.{Suit}
use Rattle.dd_cards.specs.declared.suit.Suit.TheVariants.{Spades, Hearts, Diamonds, Clubs}
use Rattle.dd_cards.specs.Suits.{suit_shift}
use Rattle.dd_cards.specs.Masks.{IsMask}
use Rattle.dd_cards.specs.Ranks.{all_ranks}
use Rattle.std.specs.Prelude.{filter}
use Rattle.dd_rank.specs.Lanes.{is_clear, lane, places_of}
use Rattle.dd_rank.proofs.Gaps.{closed, closed-tells, half, half-start, half-end, half-step, half-small}

-- the number with these four lanes
abbrev pub lanes : (Suit → ℕ) → ℕ
lanes f = f Clubs + 65536 * f Diamonds + 4294967296 * f Hearts + 281474976710656 * f Spades

-- equal lanes make equal numbers
pub lanes-same : (f g : Suit → ℕ) → ((u : Suit) → f u ≡ g u) → lanes f ≡ lanes g
lanes-same f g same = (let a = same Clubs in let b = same Diamonds in let c = same Hearts in let d = same Spades in omega (arith, a, b, c, d))

-- four lanes are 64 bits
pub lanes-small : (f : Suit → ℕ) → ((u : Suit) → f u < 2 ^ 16) → lanes f < 2 ^ 64
lanes-small f small = (let a = small Clubs in let b = small Diamonds in let c = small Hearts in let d = small Spades in omega (arith, a, b, c, d))

-- each lane is read back
pub lane-of : (f : Suit → ℕ) → ((u : Suit) → f u < 2 ^ 16) → (u : Suit) → lane (lanes f) u ≡ f u
lane-of f small = go
  where
    first : (a b c d : ℕ) → a < 65536 → (a + 65536 * b + 4294967296 * c + 281474976710656 * d) % 65536 ≡ a
    first a b c d la = omega arith

    second : (a b c d : ℕ) → a < 65536 → b < 65536 → (a + 65536 * b + 4294967296 * c + 281474976710656 * d) / 65536 % 65536 ≡ b
    second a b c d la lb = omega arith

    third : (a b c d : ℕ) → a < 65536 → b < 65536 → c < 65536 → (a + 65536 * b + 4294967296 * c + 281474976710656 * d) / 4294967296 % 65536 ≡ c
    third a b c d la lb lc = omega arith

    fourth : (a b c d : ℕ) → a < 65536 → b < 65536 → c < 65536 → d < 65536 → (a + 65536 * b + 4294967296 * c + 281474976710656 * d) / 281474976710656 % 65536 ≡ d
    fourth a b c d la lb lc ld = omega arith

    go : (u : Suit) → lane (lanes f) u ≡ f u
    go Clubs = (let e : lanes f / 1 % 65536 ≡ lanes f % 65536 = omega arith in e) ∙ first (f Clubs) (f Diamonds) (f Hearts) (f Spades) (small Clubs)
    go Diamonds = second (f Clubs) (f Diamonds) (f Hearts) (f Spades) (small Clubs) (small Diamonds)
    go Hearts = third (f Clubs) (f Diamonds) (f Hearts) (f Spades) (small Clubs) (small Diamonds) (small Hearts)
    go Spades = fourth (f Clubs) (f Diamonds) (f Hearts) (f Spades) (small Clubs) (small Diamonds) (small Hearts) (small Spades)

-- a number of 64 bits is its lanes
pub lanes-of : (x : ℕ) → x < 2 ^ 64 → lanes (lane x) ≡ x
lanes-of x small = omega (arith, small)

-- the lanes of what two numbers have in common
pub lane-and : (x y : ℕ) (u : Suit) → lane (bit_and x y) u ≡ bit_and (lane x u) (lane y u)
lane-and x y u = ap (λ n. n % 2 ^ 16) (and_shr x y (suit_shift u)) ∙ and_mod (x / 2 ^ suit_shift u) (y / 2 ^ suit_shift u) 16

-- a bit of a lane is one of the number's
pub lane-bit : (x : ℕ) (u : Suit) (r : ℕ) → r < 16 → bit_at (lane x u) r ≡ bit_at (x / 2 ^ suit_shift u) r
lane-bit x u r low =
    let n = x / 2 ^ suit_shift u in
    let one : bit_at (2 ^ 16 - 1) r ≡ 1 = bit_at_ones 16 r low in
    let b = bit_at-lt n r in
    ap (λ m. bit_at m r) (sym (and_mask n 16)) ∙ bit_at_and n (2 ^ 16 - 1) r ∙ ap (min (bit_at n r)) one ∙ (let e : min (bit_at n r) 1 ≡ bit_at n r = omega (arith, b) in e)

-- ---- one rank of all four suits
-- one bit of each lane, at the lane's lowest place
pub lane-ones : (x r : ℕ) (u : Suit) → r < 16 → lane (bit_and (x / 2 ^ r) 281479271743489) u ≡ bit_at (lane x u) r
lane-ones x r u low =
    lane-and (x / 2 ^ r) 281479271743489 u
    ∙ ap (bit_and (lane (x / 2 ^ r) u)) (ones u)
    ∙ and_mask (lane (x / 2 ^ r) u) 1
    ∙ (let e : x / 2 ^ r / 2 ^ suit_shift u % 65536 % 2 ≡ x / 2 ^ r / 2 ^ suit_shift u % 2 = omega arith in e)
    ∙ ap (λ n. n % 2) (shr-shr x r (suit_shift u) ∙ ap (λ n. x / 2 ^ n) (let e : r + suit_shift u ≡ suit_shift u + r = omega arith in e) ∙ sym (shr-shr x (suit_shift u) r))
    ∙ sym (lane-bit x u r low)
  where
    ones : (u : Suit) → lane 281479271743489 u ≡ 1
    ones Spades = refl
    ones Hearts = refl
    ones Diamonds = refl
    ones Clubs = refl

-- the bit of each lane that is gone
abbrev pub gap : ℕ → ℕ → Suit → ℕ
gap gone r u = bit_at (lane gone u) r

-- a bit times a power
bit-times : (b r : ℕ) → b < 2 → r < 16 → (b ≤ b * 2 ^ r) × (b * 2 ^ r < 2 ^ 16)
bit-times zero r few low = (let e : 0 * 2 ^ r ≡ 0 = omega arith in (omega (arith, e), omega (arith, e)))
bit-times (suc zero) r few low = (
    let e : 1 * 2 ^ r ≡ 2 ^ r = omega arith in
    let p : 2 ^ r ≤ 2 ^ 15 = pow-le-pow_right {n = 2} (omega arith) {i = r} {j = 15} (omega (arith, low)) in
    let q : 2 ^ 0 ≤ 2 ^ r = pow-le-pow_right {n = 2} (omega arith) {i = 0} {j = r} (omega arith) in
    (omega (arith, e, q), omega (arith, e, p)))
bit-times (suc (suc b)) r few low = absurd (omega (arith, few))

-- the bits below the gaps
abbrev pub below : ℕ → ℕ → Suit → ℕ
below gone r u = gap gone r u * 2 ^ r - gap gone r u

-- what the code makes of the gaps
pub record AreBelow (gone r : ℕ) (gaps : ℕ) : Type 0 where
  pub less : gaps ≤ gaps * 2 ^ r % 2 ^ 64
  pub lanes_are : gaps * 2 ^ r % 2 ^ 64 - gaps ≡ lanes (below gone r)

pub gaps-below : (gone r gaps : ℕ) → r < 16 → gaps ≡ bit_and (gone / 2 ^ r) 281479271743489 → AreBelow gone r gaps
gaps-below gone r gaps low is =
    let whole : lanes e ≡ gaps = lanes-same e (lane gaps) (λ u. sym (ap (λ n. lane n u) is ∙ lane-ones gone r u low)) ∙ lanes-of gaps (let h = and_le_r (gone / 2 ^ r) 281479271743489 in omega (arith, h, is)) in
    let moved : gaps * 2 ^ r ≡ lanes q = ap (λ n. n * 2 ^ r) (sym whole) ∙ times (e Clubs) (e Diamonds) (e Hearts) (e Spades) (2 ^ r) in
    let small : lanes q < 2 ^ 64 = lanes-small q (λ u. (fits u).1) in
    let c = (fits Clubs).0 in let d = (fits Diamonds).0 in let h = (fits Hearts).0 in let s = (fits Spades).0 in
    record {
      less = omega (arith, moved, small, whole, c, d, h, s);
      lanes_are = less (e Clubs) (e Diamonds) (e Hearts) (e Spades) (q Clubs) (q Diamonds) (q Hearts) (q Spades) gaps (gaps * 2 ^ r) whole moved small c d h s;
    }
  where
    e : Suit → ℕ
    e u = gap gone r u

    q : Suit → ℕ
    q u = gap gone r u * 2 ^ r

    fits : (u : Suit) → (e u ≤ q u) × (q u < 2 ^ 16)
    fits u = bit-times (gap gone r u) r (bit_at-lt (lane gone u) r) low

    times : (a b c d p : ℕ) → (a + 65536 * b + 4294967296 * c + 281474976710656 * d) * p ≡ a * p + 65536 * (b * p) + 4294967296 * (c * p) + 281474976710656 * (d * p)
    times a b c d p =
        add-mul (a + 65536 * b + 4294967296 * c) (281474976710656 * d) p
        ∙ ap₂ (λ m n. m + n) (add-mul (a + 65536 * b) (4294967296 * c) p ∙ ap₂ (λ m n. m + n) (add-mul a (65536 * b) p ∙ ap (λ n. a * p + n) (mul_assoc 65536 b p)) (mul_assoc 4294967296 c p)) (mul_assoc 281474976710656 d p)

    less : (a b c d i j k l g m : ℕ) → a + 65536 * b + 4294967296 * c + 281474976710656 * d ≡ g → m ≡ i + 65536 * j + 4294967296 * k + 281474976710656 * l
        → i + 65536 * j + 4294967296 * k + 281474976710656 * l < 2 ^ 64 → a ≤ i → b ≤ j → c ≤ k → d ≤ l
        → m % 2 ^ 64 - g ≡ (i - a) + 65536 * (j - b) + 4294967296 * (k - c) + 281474976710656 * (l - d)
    less a b c d i j k l g m eg em small la lb lc ld = omega arith

-- what a lane has below a gap
below-gap : (n b r : ℕ) → b < 2 → bit_and n (b * 2 ^ r - b) ≡ b * (n % 2 ^ r)
below-gap n zero r few = ap (bit_and n) (let e : 0 * 2 ^ r - 0 ≡ 0 = omega arith in e) ∙ and_zero_r n ∙ (let e : 0 ≡ 0 * (n % 2 ^ r) = omega arith in e)
below-gap n (suc zero) r few = ap (bit_and n) (let e : 1 * 2 ^ r - 1 ≡ 2 ^ r - 1 = omega arith in e) ∙ and_mask n r ∙ (let e : n % 2 ^ r ≡ 1 * (n % 2 ^ r) = omega arith in e)
below-gap n (suc (suc b)) r few = absurd (omega (arith, few))

-- One rank more in all four suits.
pub step-lanes : (k gone entry now gaps : ℕ) → k < 13 → ((u : Suit) → lane entry u < 2 ^ 15) → ((u : Suit) → bit_at (lane gone u) (k + 2) ≡ 1 → bit_at (lane entry u) (k + 2) ≡ 0)
    → AreBelow gone (k + 2) gaps → now ≡ lanes (λ u. half k (lane gone u) (lane entry u))
    → now + bit_and now (gaps * 2 ^ (k + 2) % 2 ^ 64 - gaps) ≡ lanes (λ u. half (suc k) (lane gone u) (lane entry u))
step-lanes k gone entry now gaps most few apart are is =
    sum (h Clubs) (h Diamonds) (h Hearts) (h Spades) (x Clubs) (x Diamonds) (x Hearts) (x Spades) _ _ _ _ now (bit_and now m) is and_lanes (each Clubs) (each Diamonds) (each Hearts) (each Spades)
  where
    r : ℕ
    r = k + 2

    m : ℕ
    m = gaps * 2 ^ (k + 2) % 2 ^ 64 - gaps

    h : Suit → ℕ
    h u = half k (lane gone u) (lane entry u)

    small : (u : Suit) → h u < 2 ^ 16
    small u = half-small k (lane gone u) (lane entry u) (omega (arith, most)) (few u)

    x : Suit → ℕ
    x u = gap gone (k + 2) u * (h u % 2 ^ (k + 2))

    bit : (u : Suit) → gap gone (k + 2) u < 2
    bit u = bit_at-lt (lane gone u) (k + 2)

    below-small : (u : Suit) → below gone (k + 2) u < 2 ^ 16
    below-small u = (let f = (bit-times (gap gone (k + 2) u) (k + 2) (bit u) (omega (arith, most))).1 in omega (arith, f))

    now-small : now < 2 ^ 64
    now-small = (let l = lanes-small h small in omega (arith, is, l))

    and-lane : (u : Suit) → lane (bit_and now m) u ≡ x u
    and-lane u =
        lane-and now m u
        ∙ ap₂ bit_and (ap (λ n. lane n u) is ∙ lane-of h small u) (ap (λ n. lane n u) are.lanes_are ∙ lane-of (below gone (k + 2)) below-small u)
        ∙ below-gap (h u) (gap gone (k + 2) u) (k + 2) (bit u)

    and_lanes : bit_and now m ≡ lanes x
    and_lanes = sym (lanes-of (bit_and now m) (let l = and_le_l now m in let s = now-small in omega (arith, l, s))) ∙ lanes-same (lane (bit_and now m)) x and-lane

    each : (u : Suit) → h u + x u ≡ half (suc k) (lane gone u) (lane entry u)
    each u = half-step k (lane gone u) (lane entry u) (apart u)

    sum : (a b c d i j k l p q s t n o : ℕ) → n ≡ a + 65536 * b + 4294967296 * c + 281474976710656 * d → o ≡ i + 65536 * j + 4294967296 * k + 281474976710656 * l
        → a + i ≡ p → b + j ≡ q → c + k ≡ s → d + l ≡ t → n + o ≡ p + 65536 * q + 4294967296 * s + 281474976710656 * t
    sum a b c d i j k l p q s t n o en eo ea eb ec ed = omega arith

-- ---- the walk from the lowest rank up
-- before a rank, all gaps below it are closed
pub record IsClosing (odd far gone rank now_odd now_far : ℕ) : Type 0 where
  pub k : ℕ
  pub at : rank ≡ k + 2
  pub odd_is : now_odd ≡ lanes (λ u. half k (lane gone u) (lane odd u))
  pub far_is : now_far ≡ lanes (λ u. half k (lane gone u) (lane far u))

-- at the rank above the lowest there is none, since the lowest has none below it
pub closing-start : (odd far gone : ℕ) → odd < 2 ^ 64 → far < 2 ^ 64 → ((u : Suit) → IsMask (lane odd u)) → ((u : Suit) → IsMask (lane far u))
    → ((u : Suit) (r : ℕ) → r < 16 → bit_at (lane gone u) r ≡ 1 → (bit_at (lane odd u) r ≡ 0) × (bit_at (lane far u) r ≡ 0)) → IsClosing odd far gone 3 odd far
closing-start odd far gone fits_odd fits_far masks_odd masks_far apart = record {
  k = 1;
  at = refl;
  odd_is = start odd fits_odd masks_odd (λ u e. (apart u 2 (omega arith) e).0);
  far_is = start far fits_far masks_far (λ u e. (apart u 2 (omega arith) e).1);
}
  where
    first : (g x : ℕ) → IsMask x → (bit_at g 2 ≡ 1 → bit_at x 2 ≡ 0) → x ≡ half 1 g x
    first g x mask differ =
        let same : half 0 g x ≡ x = half-start g x mask.1 in
        let none : half 0 g x % 2 ^ 2 ≡ 0 = ap (λ n. n % 4) same ∙ mask.1 in
        let plain : x ≡ half 0 g x + bit_at g 2 * 0 = omega (arith, same) in
        plain ∙ ap (λ n. half 0 g x + bit_at g 2 * n) (sym none) ∙ half-step 0 g x differ

    start : (x : ℕ) → x < 2 ^ 64 → ((u : Suit) → IsMask (lane x u)) → ((u : Suit) → bit_at (lane gone u) 2 ≡ 1 → bit_at (lane x u) 2 ≡ 0) → x ≡ lanes (λ u. half 1 (lane gone u) (lane x u))
    start x fits masks differ = sym (lanes-of x fits) ∙ lanes-same (lane x) (λ u. half 1 (lane gone u) (lane x u)) (λ u. first (lane gone u) (lane x u) (masks u) (differ u))

-- what the step at a rank may assume, and where it leads
pub record IsClosed (odd far gone rank now_odd now_far gaps : ℕ) : Type 0 where
  pub less : gaps ≤ gaps * 2 ^ rank % 2 ^ 64
  pub odd_fits : now_odd + bit_and now_odd (gaps * 2 ^ rank % 2 ^ 64 - gaps) < 2 ^ 64
  pub far_fits : now_far + bit_and now_far (gaps * 2 ^ rank % 2 ^ 64 - gaps) < 2 ^ 64
  pub next : IsClosing odd far gone (rank + 1) (now_odd + bit_and now_odd (gaps * 2 ^ rank % 2 ^ 64 - gaps)) (now_far + bit_and now_far (gaps * 2 ^ rank % 2 ^ 64 - gaps))

closing-step : (odd far gone rank now_odd now_far gaps : ℕ) → ((u : Suit) → IsMask (lane odd u)) → ((u : Suit) → IsMask (lane far u))
    → ((u : Suit) (r : ℕ) → r < 16 → bit_at (lane gone u) r ≡ 1 → (bit_at (lane odd u) r ≡ 0) × (bit_at (lane far u) r ≡ 0))
    → rank < 15 → gaps ≡ bit_and (gone / 2 ^ rank) 281479271743489 → IsClosing odd far gone rank now_odd now_far → IsClosed odd far gone rank now_odd now_far gaps
closing-step odd far gone rank now_odd now_far gaps masks_odd masks_far apart low is w =
    subst (λ r. IsClosed odd far gone r now_odd now_far gaps) (sym w.at) (record {
      less = are.less;
      odd_fits = fits odd now_odd masks_odd odd_next;
      far_fits = fits far now_far masks_far far_next;
      next = record { k = suc w.k; at = (let e : w.k + 2 + 1 ≡ suc w.k + 2 = omega arith in e); odd_is = odd_next; far_is = far_next };
    })
  where
    most : w.k < 13
    most = (let e = w.at in omega (arith, e, low))

    are : AreBelow gone (w.k + 2) gaps
    are = gaps-below gone (w.k + 2) gaps (let m = most in omega (arith, m)) (is ∙ ap (λ r. bit_and (gone / 2 ^ r) 281479271743489) w.at)

    odd_next : now_odd + bit_and now_odd (gaps * 2 ^ (w.k + 2) % 2 ^ 64 - gaps) ≡ lanes (λ u. half (suc w.k) (lane gone u) (lane odd u))
    odd_next = step-lanes w.k gone odd now_odd gaps most (λ u. (masks_odd u).0) (λ u e. (apart u (w.k + 2) (let m = most in omega (arith, m)) e).0) are w.odd_is

    far_next : now_far + bit_and now_far (gaps * 2 ^ (w.k + 2) % 2 ^ 64 - gaps) ≡ lanes (λ u. half (suc w.k) (lane gone u) (lane far u))
    far_next = step-lanes w.k gone far now_far gaps most (λ u. (masks_far u).0) (λ u e. (apart u (w.k + 2) (let m = most in omega (arith, m)) e).1) are w.far_is

    fits : (x n : ℕ) → ((u : Suit) → IsMask (lane x u)) → n + bit_and n (gaps * 2 ^ (w.k + 2) % 2 ^ 64 - gaps) ≡ lanes (λ u. half (suc w.k) (lane gone u) (lane x u)) → n + bit_and n (gaps * 2 ^ (w.k + 2) % 2 ^ 64 - gaps) < 2 ^ 64
    fits x n masks e =
        let m = most in
        let s = lanes-small (λ u. half (suc w.k) (lane gone u) (lane x u)) (λ u. half-small (suc w.k) (lane gone u) (lane x u) (omega (arith, m)) (masks u).0) in
        omega (arith, e, s)

-- at the end none is open
closing-end : (odd far gone rank now_odd now_far : ℕ) → ((u : Suit) → IsMask (lane odd u)) → ((u : Suit) → IsMask (lane far u)) → rank ≡ 15 → IsClosing odd far gone rank now_odd now_far
    → (u : Suit) → places_of (lane now_odd u) (lane now_far u) all_ranks ≡ places_of (lane odd u) (lane far u) (filter (is_clear (lane gone u)) all_ranks)
unfolding all_ranks
closing-end odd far gone rank now_odd now_far masks_odd masks_far last w u =
    ap₂ (λ y z. places_of y z all_ranks) (whole odd now_odd masks_odd w.odd_is) (whole far now_far masks_far w.far_is) ∙ closed-tells 13 (lane gone u) (lane odd u) (lane far u)
  where
    k : w.k ≡ 13
    k = (let e = w.at in omega (arith, e, last))

    whole : (x n : ℕ) → ((u : Suit) → IsMask (lane x u)) → n ≡ lanes (λ u. half w.k (lane gone u) (lane x u)) → lane n u ≡ closed 13 (lane gone u) (lane x u)
    whole x n masks e =
        ap (λ m. lane m u) e
        ∙ lane-of (λ u. half w.k (lane gone u) (lane x u)) (λ u. half-small w.k (lane gone u) (lane x u) (let m = k in omega (arith, m)) (masks u).0) u
        ∙ ap (λ m. half m (lane gone u) (lane x u)) k
        ∙ half-end (lane gone u) (lane x u) (masks u).0

-- both numbers side by side, each with the gaps below a rank closed
pub record AreClosing (odd far gone rank : ℕ) (both : List ℕ) : Type 0 where
  pub now_odd : ℕ
  pub now_far : ℕ
  pub are : both ≡ now_odd ∷ now_far ∷ []
  pub closing : IsClosing odd far gone rank now_odd now_far

-- a rank more, as the code adds it to both: modulo 2 ^ 64, of which no sum or difference makes use
pub both-step : (odd far gone rank gaps : ℕ) (both : List ℕ) → ((u : Suit) → IsMask (lane odd u)) → ((u : Suit) → IsMask (lane far u))
    → ((u : Suit) (r : ℕ) → r < 16 → bit_at (lane gone u) r ≡ 1 → (bit_at (lane odd u) r ≡ 0) × (bit_at (lane far u) r ≡ 0))
    → rank < 15 → gaps ≡ bit_and (gone / 2 ^ rank) 281479271743489 → AreClosing odd far gone rank both
    → AreClosing odd far gone (rank + 1) (zip2 (λ x y. (x + y) % 2 ^ 64) both (zip2 (λ x y. bit_and x y) both ((gaps * 2 ^ rank % 2 ^ 64 + (2 ^ 64 - gaps)) % 2 ^ 64 ∷ (gaps * 2 ^ rank % 2 ^ 64 + (2 ^ 64 - gaps)) % 2 ^ 64 ∷ [])))
both-step odd far gone rank gaps both masks_odd masks_far apart low is w = record {
  now_odd = a + bit_and a m;
  now_far = b + bit_and b m;
  are = ap (λ l. zip2 (λ x y. (x + y) % 2 ^ 64) l (zip2 (λ x y. bit_and x y) l (wrapped ∷ wrapped ∷ []))) w.are
      ∙ ap₂ (λ x y. x ∷ y ∷ []) (ap (λ v. (a + bit_and a v) % 2 ^ 64) same ∙ whole (a + bit_and a m) s.odd_fits) (ap (λ v. (b + bit_and b v) % 2 ^ 64) same ∙ whole (b + bit_and b m) s.far_fits);
  closing = s.next;
}
  where
    a : ℕ
    a = w.now_odd

    b : ℕ
    b = w.now_far

    m : ℕ
    m = gaps * 2 ^ rank % 2 ^ 64 - gaps

    wrapped : ℕ
    wrapped = (gaps * 2 ^ rank % 2 ^ 64 + (2 ^ 64 - gaps)) % 2 ^ 64

    s : IsClosed odd far gone rank a b gaps
    s = closing-step odd far gone rank a b gaps masks_odd masks_far apart low is w.closing

    difference : (x y : ℕ) → x < 2 ^ 64 → y ≤ x → (x + (2 ^ 64 - y)) % 2 ^ 64 ≡ x - y
    difference x y fits less = omega (arith, fits, less)

    same : wrapped ≡ m
    same = difference (gaps * 2 ^ rank % 2 ^ 64) gaps (mod_below (gaps * 2 ^ rank) (2 ^ 64) (omega arith)) s.less

    whole : (x : ℕ) → x < 2 ^ 64 → x % 2 ^ 64 ≡ x
    whole x fits = omega (arith, fits)

-- the gaps of ranks alone are those of all bits
pub gaps-of-ranks : (gone k : ℕ) → k < 13 → bit_and (bit_and gone 9222386859403673596 / 2 ^ (k + 2)) 281479271743489 ≡ bit_and (gone / 2 ^ (k + 2)) 281479271743489
gaps-of-ranks gone k few =
    ap (λ n. bit_and n 281479271743489) (and_shr gone 9222386859403673596 (k + 2))
    ∙ and_assoc 281479271743489 (gone / 2 ^ (k + 2)) (9222386859403673596 / 2 ^ (k + 2))
    ∙ ap (bit_and (gone / 2 ^ (k + 2))) (ones k few)
  where
    ones : (k : ℕ) → k < 13 → bit_and (9222386859403673596 / 2 ^ (k + 2)) 281479271743489 ≡ 281479271743489
    ones zero few = refl
    ones (suc zero) few = refl
    ones (suc (suc zero)) few = refl
    ones (suc (suc (suc zero))) few = refl
    ones (suc (suc (suc (suc zero)))) few = refl
    ones (suc (suc (suc (suc (suc zero))))) few = refl
    ones (suc (suc (suc (suc (suc (suc zero)))))) few = refl
    ones (suc (suc (suc (suc (suc (suc (suc zero))))))) few = refl
    ones (suc (suc (suc (suc (suc (suc (suc (suc zero)))))))) few = refl
    ones (suc (suc (suc (suc (suc (suc (suc (suc (suc zero))))))))) few = refl
    ones (suc (suc (suc (suc (suc (suc (suc (suc (suc (suc zero)))))))))) few = refl
    ones (suc (suc (suc (suc (suc (suc (suc (suc (suc (suc (suc zero))))))))))) few = refl
    ones (suc (suc (suc (suc (suc (suc (suc (suc (suc (suc (suc (suc zero)))))))))))) few = refl
    ones (suc (suc (suc (suc (suc (suc (suc (suc (suc (suc (suc (suc (suc k))))))))))))) few = absurd (omega (arith, few))

-- The code takes the gaps of the second number from the bits of ranks alone.
pub ranks-step : (odd far gone rank gaps : ℕ) (both : List ℕ) → ((u : Suit) → IsMask (lane odd u)) → ((u : Suit) → IsMask (lane far u))
    → ((u : Suit) (r : ℕ) → r < 16 → bit_at (lane gone u) r ≡ 1 → (bit_at (lane odd u) r ≡ 0) × (bit_at (lane far u) r ≡ 0))
    → rank < 15 → gaps ≡ bit_and (bit_and gone 9222386859403673596 / 2 ^ rank) 281479271743489 → AreClosing odd far gone rank both
    → AreClosing odd far gone (rank + 1) (zip2 (λ x y. (x + y) % 2 ^ 64) both (zip2 (λ x y. bit_and x y) both
    ((bit_and (gone / 2 ^ rank) 281479271743489 * 2 ^ rank % 2 ^ 64 + (2 ^ 64 - bit_and (gone / 2 ^ rank) 281479271743489)) % 2 ^ 64 ∷ (gaps * 2 ^ rank % 2 ^ 64 + (2 ^ 64 - gaps)) % 2 ^ 64 ∷ [])))
ranks-step odd far gone rank gaps both masks_odd masks_far apart low is w =
    subst (λ g. AreClosing odd far gone (rank + 1) (zip2 (λ x y. (x + y) % 2 ^ 64) both (zip2 (λ x y. bit_and x y) both
    ((bit_and (gone / 2 ^ rank) 281479271743489 * 2 ^ rank % 2 ^ 64 + (2 ^ 64 - bit_and (gone / 2 ^ rank) 281479271743489)) % 2 ^ 64 ∷ (g * 2 ^ rank % 2 ^ 64 + (2 ^ 64 - g)) % 2 ^ 64 ∷ []))))
    (sym (is ∙ same)) (both-step odd far gone rank (bit_and (gone / 2 ^ rank) 281479271743489) both masks_odd masks_far apart low refl w)
  where
    same : bit_and (bit_and gone 9222386859403673596 / 2 ^ rank) 281479271743489 ≡ bit_and (gone / 2 ^ rank) 281479271743489
    same = subst (λ r. bit_and (bit_and gone 9222386859403673596 / 2 ^ r) 281479271743489 ≡ bit_and (gone / 2 ^ r) 281479271743489) (sym w.closing.at)
        (gaps-of-ranks gone w.closing.k (let e = w.closing.at in omega (arith, e, low)))

-- and at the end none is open in either
pub both-end : (odd far gone rank : ℕ) (both : List ℕ) → ((u : Suit) → IsMask (lane odd u)) → ((u : Suit) → IsMask (lane far u)) → rank ≡ 15 → AreClosing odd far gone rank both
    → (u : Suit) → places_of (lane (get_or both 0 0) u) (lane (get_or both 1 0) u) all_ranks ≡ places_of (lane odd u) (lane far u) (filter (is_clear (lane gone u)) all_ranks)
both-end odd far gone rank both masks_odd masks_far last w u =
    ap (λ l. places_of (lane (get_or l 0 0) u) (lane (get_or l 1 0) u) all_ranks) w.are ∙ closing-end odd far gone rank w.now_odd w.now_far masks_odd masks_far last w.closing u
