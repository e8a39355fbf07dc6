-- owners under the bits of a suit's highest cards
use Rattle.std.proofs.Common.{◌≡◌, ℕ, zero, suc, ◌+◌, ◌-◌, ◌*◌, ◌/◌, ◌%◌, ◌^◌, ◌<◌, ◌≤◌, Bool, true, false, refl, sym, ap, ◌∙◌, arith, bit_and, nat_eq, eqb-true, eq-eqb, min, inl, inr}
use Rattle.std.specs.Prelude.{◌&&◌, IsTrue}
use mathlib.Core.Path.{ap₂}
use Rattle.std.specs.Int.{bit_at}
use Rattle.std.specs.Int.Bits.{and_self}
use Rattle.std.proofs.lemmas.Bool.{cases_lt}
use Rattle.std.proofs.lemmas.Nat.{pow-add, pow_pos, and_le_r, and_assoc, shl-shr}
use Rattle.std.proofs.lemmas.Nat.Bits.{bit_at-lt, bit_at_and, bit_at_above, bit_at_cat_low, bit_at_cat_high, bit_at_ones, bit_at-zero, same_from_bits_below}
use Rattle.std.proofs.Math.Nat.{add-mul}
use Rattle.dd_cards.specs.declared.suit.Suit.{Suit}
use Rattle.dd_cards.specs.declared.suit.Suit.TheVariants.{Spades, Hearts, Diamonds, Clubs}
use Rattle.dd_cards.specs.Ranks.{lowest_ranks, all_ranks}
use Rattle.dd_rank.specs.Depths.{FourDepths, depth_in}
use Rattle.dd_rank.specs.FirstOwners.{top_places, AreUnder}
use Rattle.dd_rank.specs.Lanes.{lane, places_of}
use Rattle.dd_rank.proofs.Digits.{below-power}
use Rattle.dd_rank.proofs.FourLanes.{lanes, lane-and, lanes-of, lanes-same}
use Rattle.dd_rank.proofs.Packed.{is-true, true-is}

-- ---- the bits of the highest places
-- they are ones over zeros
split : (d : ℕ) → d ≤ 15 → top_places d ≡ (2 ^ d - 1) * 2 ^ (15 - d) + 0
split d few =
    let e : d + (15 - d) ≡ 15 = omega (arith, few) in
    let whole : 2 ^ 15 ≡ 2 ^ d * 2 ^ (15 - d) = ap (λ n. 2 ^ n) (sym e) ∙ pow-add 2 d (15 - d) in
    ap (λ n. n - 2 ^ (15 - d)) whole ∙ less (2 ^ d) (2 ^ (15 - d)) (pow_pos d)
  where
    less : (q p : ℕ) → 0 < q → q * p - p ≡ (q - 1) * p + 0
    less zero p h = absurd (omega (arith, h))
    less (suc q) p h = (let e = add-mul 1 q p in let o : 1 * p ≡ p = omega arith in let k : (suc q - 1) * p ≡ q * p = ap (λ n. n * p) (let m : suc q - 1 ≡ q = omega arith in m) in let n : suc q * p ≡ (1 + q) * p = ap (λ m. m * p) (let m : suc q ≡ 1 + q = omega arith in m) in omega (arith, e, o, k, n))

-- they are what code makes of the bit above them
pub tops-coded : (d : ℕ) → d ≤ 15 → 32768 - 32768 / 2 ^ d ≡ top_places d
tops-coded d few =
    let e : 15 - d + d ≡ 15 = omega (arith, few) in
    let whole : 32768 ≡ 2 ^ (15 - d) * 2 ^ d = ap (λ n. 2 ^ n) (sym e) ∙ pow-add 2 (15 - d) d in
    ap (λ n. 32768 - n) (ap (λ n. n / 2 ^ d) whole ∙ shl-shr (2 ^ (15 - d)) d)

-- each of the highest is there
pub top-bit : (d r : ℕ) → d ≤ 15 → r < 15 → 15 ≤ r + d → bit_at (top_places d) r ≡ 1
top-bit d r few low high =
    ap (λ n. bit_at n r) (split d few) ∙ bit_at_cat_high (2 ^ d - 1) (15 - d) 0 r (pow_pos (15 - d)) (omega (arith, high)) ∙ bit_at_ones d (r - (15 - d)) (omega (arith, few, low, high))

-- none below them
pub low-bit : (d r : ℕ) → d ≤ 15 → r + d < 15 → bit_at (top_places d) r ≡ 0
low-bit d r few low = ap (λ n. bit_at n r) (split d few) ∙ bit_at_cat_low (2 ^ d - 1) (15 - d) 0 r (omega (arith, low)) ∙ bit_at-zero r

-- and none above
pub tops-small : (d : ℕ) → top_places d < 2 ^ 15
tops-small d = (let p = pow_pos (15 - d) in omega (arith, p))

-- ---- a bit of what stands under a mask
both-one : (x m r : ℕ) → bit_at m r ≡ 1 → bit_at (bit_and x m) r ≡ bit_at x r
both-one x m r one = (let b = bit_at-lt x r in bit_at_and x m r ∙ ap (min (bit_at x r)) one ∙ (let e : min (bit_at x r) 1 ≡ bit_at x r = omega (arith, b) in e))

both-none : (x m r : ℕ) → bit_at m r ≡ 0 → bit_at (bit_and x m) r ≡ 0
both-none x m r none = bit_at_and x m r ∙ ap (min (bit_at x r)) none ∙ (let e : min (bit_at x r) 0 ≡ 0 = omega arith in e)

-- nothing of it but the owners of these ranks is left
none-left : (k m y z : ℕ) → ((r : ℕ) → r < k + 2 → bit_at m r ≡ 0) → places_of (bit_and y m) (bit_and z m) (lowest_ranks k) ≡ 0
unfolding lowest_ranks
none-left zero m y z none = refl
none-left (suc k) m y z none =
    let a = both-none y m (k + 2) (none (k + 2) (omega arith)) in
    let b = both-none z m (k + 2) (none (k + 2) (omega arith)) in
    let ih = none-left k m y z (λ r h. none r (omega (arith, h))) in
    omega (arith, a, b, ih)

-- so many of the highest ranks are the lower part of the number
some-left : (k d m y z : ℕ) → d ≤ k → ((r : ℕ) → r < k + 2 → k + 2 ≤ r + d → bit_at m r ≡ 1) → ((r : ℕ) → r + d < k + 2 → bit_at m r ≡ 0)
    → places_of (bit_and y m) (bit_and z m) (lowest_ranks k) ≡ places_of y z (lowest_ranks k) % 4 ^ d
unfolding lowest_ranks
some-left k zero m y z few ones none = none-left k m y z (λ r h. none r (omega (arith, h))) ∙ (let e : 0 ≡ places_of y z (lowest_ranks k) % 1 = omega arith in e)
some-left zero (suc d) m y z few ones none = absurd (omega (arith, few))
some-left (suc k) (suc d) m y z few ones none =
    let one = ones (k + 2) (omega arith) (omega arith) in
    let a = both-one y m (k + 2) one in
    let b = both-one z m (k + 2) one in
    let ih = some-left k d m y z (omega (arith, few)) (λ r h g. ones r (omega (arith, h)) (omega (arith, g))) (λ r h. none r (omega (arith, h))) in
    let i = bit_at-lt y (k + 2) in
    let j = bit_at-lt z (k + 2) in
    ap₂ (λ e n. e + 4 * n) (ap₂ (λ p q. p + 2 * q) a b) ih
    ∙ sym (below-power (bit_at y (k + 2) + 2 * bit_at z (k + 2)) (places_of y z (lowest_ranks k)) d (omega (arith, i, j)))

-- .. of a suit
pub under-tops : (d y z : ℕ) → d ≤ 13 → places_of (bit_and y (top_places d)) (bit_and z (top_places d)) all_ranks ≡ places_of y z all_ranks % 4 ^ d
unfolding all_ranks
under-tops d y z few = some-left 13 d (top_places d) y z few (λ r h g. top-bit d r (omega (arith, few)) h g) (λ r h. low-bit d r (omega (arith, few)) h)

-- ---- owners under the bits of the highest places are told by their number
-- the bits of the ranks
ranks-tell : (k y z v w : ℕ) → places_of y z (lowest_ranks k) ≡ places_of v w (lowest_ranks k) → (r : ℕ) → 2 ≤ r → r < k + 2 → (bit_at y r ≡ bit_at v r) × (bit_at z r ≡ bit_at w r)
unfolding lowest_ranks
ranks-tell zero y z v w same r low high = absurd (omega (arith, low, high))
ranks-tell (suc k) y z v w same r low high =
    let a = bit_at-lt y (k + 2) in
    let b = bit_at-lt z (k + 2) in
    let c = bit_at-lt v (k + 2) in
    let d = bit_at-lt w (k + 2) in
    let rest : places_of y z (lowest_ranks k) ≡ places_of v w (lowest_ranks k) = omega (arith, same, a, b, c, d) in
    let odd : bit_at y (k + 2) ≡ bit_at v (k + 2) = omega (arith, same, a, b, c, d) in
    let far : bit_at z (k + 2) ≡ bit_at w (k + 2) = omega (arith, same, a, b, c, d) in
    elim (cases_lt r (k + 2)) [
      | inl less ↦ ranks-tell k y z v w rest r low less
      | inr more ↦ (let e : r ≡ k + 2 = omega (arith, more, high) in rw e (odd, far))
    ]

-- and of a suit all bits
pub tops-tell : (d y z v w : ℕ) → d ≤ 13 → places_of (bit_and y (top_places d)) (bit_and z (top_places d)) all_ranks ≡ places_of (bit_and v (top_places d)) (bit_and w (top_places d)) all_ranks
    → (bit_and y (top_places d) ≡ bit_and v (top_places d)) × (bit_and z (top_places d) ≡ bit_and w (top_places d))
unfolding all_ranks
tops-tell d y z v w few same = (
  same_from_bits_below 16 _ _ (small y) (small v) (λ r h. each y v r (λ low high. (ranks-tell 13 _ _ _ _ same r low high).0)),
  same_from_bits_below 16 _ _ (small z) (small w) (λ r h. each z w r (λ low high. (ranks-tell 13 _ _ _ _ same r low high).1)),
)
  where
    m : ℕ
    m = top_places d

    small : (x : ℕ) → bit_and x (top_places d) < 2 ^ 16
    small x = (let l = and_le_r x (top_places d) in let t = tops-small d in omega (arith, l, t))

    outside : (x r : ℕ) → bit_at (top_places d) r ≡ 0 → (y : ℕ) → bit_at (bit_and x (top_places d)) r ≡ bit_at (bit_and y (top_places d)) r
    outside x r none y = both-none x (top_places d) r none ∙ sym (both-none y (top_places d) r none)

    each : (x y r : ℕ) → (2 ≤ r → r < 15 → bit_at (bit_and x (top_places d)) r ≡ bit_at (bit_and y (top_places d)) r) → bit_at (bit_and x (top_places d)) r ≡ bit_at (bit_and y (top_places d)) r
    each x y r inside = elim (cases_lt r 2) [
      | inl less ↦ outside x r (low-bit d r (omega (arith, few)) (omega (arith, less, few))) y
      | inr more ↦ elim (cases_lt r 15) [
        | inl less ↦ inside more less
        | inr above ↦ outside x r (bit_at_above (top_places d) 15 r (tops-small d) above) y
      ]
    ]

-- ---- four suits
-- a number for each suit
abbrev pub each_suit : ℕ → ℕ → ℕ → ℕ → Suit → ℕ
each_suit s h d c Spades = s
each_suit s h d c Hearts = h
each_suit s h d c Diamonds = d
each_suit s h d c Clubs = c

-- a lane of what stands under the mask
under-lane : (depths : FourDepths) (mask x : ℕ) → ((u : Suit) → lane mask u ≡ top_places (depth_in depths u)) → (u : Suit) → lane (bit_and x mask) u ≡ bit_and (lane x u) (top_places (depth_in depths u))
under-lane depths mask x tops u = lane-and x mask u ∙ ap (bit_and (lane x u)) (tops u)

-- the owners under the mask are the first ones
pub first-under : (depths : FourDepths) (mask odd far : ℕ) → ((u : Suit) → depth_in depths u ≤ 13) → ((u : Suit) → lane mask u ≡ top_places (depth_in depths u)) → (u : Suit)
    → places_of (lane (bit_and odd mask) u) (lane (bit_and far mask) u) all_ranks ≡ places_of (lane odd u) (lane far u) all_ranks % 4 ^ depth_in depths u
first-under depths mask odd far few tops u =
    ap₂ (λ y z. places_of y z all_ranks) (under-lane depths mask odd tops u) (under-lane depths mask far tops u) ∙ under-tops (depth_in depths u) (lane odd u) (lane far u) (few u)

-- what stands under a mask stays so
under-twice : (x m : ℕ) → bit_and (bit_and x m) m ≡ bit_and x m
under-twice x m = and_assoc m x m ∙ ap (bit_and x) (and_self m)

pub stays-under : (n x m : ℕ) → n ≡ bit_and x m → bit_and n m ≡ n
stays-under n x m e = ap (λ k. bit_and k m) e ∙ under-twice x m ∙ sym e

-- the same owners under the mask have the same numbers
pub same-numbers : (depths : FourDepths) (mask odd far i j : ℕ) → AreUnder depths mask odd far → bit_and i mask ≡ odd → bit_and j mask ≡ far → (u : Suit)
    → places_of (lane i u) (lane j u) all_ranks % 4 ^ depth_in depths u ≡ places_of (lane odd u) (lane far u) all_ranks
same-numbers depths mask odd far i j a ei ej u =
    sym (first-under depths mask i j a.few a.tops u) ∙ ap₂ (λ y z. places_of (lane y u) (lane z u) all_ranks) ei ej

-- and the other way round
pub numbers-same : (depths : FourDepths) (mask odd far i j : ℕ) → AreUnder depths mask odd far
    → ((u : Suit) → places_of (lane i u) (lane j u) all_ranks % 4 ^ depth_in depths u ≡ places_of (lane odd u) (lane far u) all_ranks) → (bit_and i mask ≡ odd) × (bit_and j mask ≡ far)
numbers-same depths mask odd far i j a same = (
  whole i odd a.odd_under (λ u. (each u).0),
  whole j far a.far_under (λ u. (each u).1),
)
  where
    each : (u : Suit) → (lane (bit_and i mask) u ≡ lane (bit_and odd mask) u) × (lane (bit_and j mask) u ≡ lane (bit_and far mask) u)
    each u =
        let lane_of = λ (x : ℕ). under-lane depths mask x a.tops u in
        let t = tops-tell (depth_in depths u) (lane i u) (lane j u) (lane odd u) (lane far u) (a.few u) (
        under-tops (depth_in depths u) (lane i u) (lane j u) (a.few u) ∙ same u
        ∙ sym (ap₂ (λ y z. places_of y z all_ranks) (sym (lane_of odd) ∙ ap (λ x. lane x u) a.odd_under) (sym (lane_of far) ∙ ap (λ x. lane x u) a.far_under))) in
        (lane_of i ∙ t.0 ∙ sym (lane_of odd), lane_of j ∙ t.1 ∙ sym (lane_of far))

    fits : (x : ℕ) → bit_and x mask < 2 ^ 64
    fits x = (let l = and_le_r x mask in let m = a.fits in omega (arith, l, m))

    whole : (x y : ℕ) → bit_and y mask ≡ y → ((u : Suit) → lane (bit_and x mask) u ≡ lane (bit_and y mask) u) → bit_and x mask ≡ y
    whole x y under same_lanes = sym (lanes-of (bit_and x mask) (fits x)) ∙ lanes-same (lane (bit_and x mask)) (lane (bit_and y mask)) same_lanes ∙ lanes-of (bit_and y mask) (fits y) ∙ under

-- ---- what code compares
-- both tests together tell whether the first owners are these
pub under-tells : (b : Bool) (depths : FourDepths) (mask odd far i j x y : ℕ) → AreUnder depths mask odd far → x ≡ bit_and i mask → y ≡ bit_and j mask → b ≡ (nat_eq x odd && nat_eq y far) → IsTrue b
    → (u : Suit) → places_of (lane i u) (lane j u) all_ranks % 4 ^ depth_in depths u ≡ places_of (lane odd u) (lane far u) all_ranks
under-tells b depths mask odd far i j x y a ex ey is h =
    let t = both (nat_eq x odd) (nat_eq y far) (sym is ∙ is-true b h) in
    same-numbers depths mask odd far i j a (sym ex ∙ eqb-true x odd t.0) (sym ey ∙ eqb-true y far t.1)
  where
    both : (p q : Bool) → (p && q) ≡ true → (p ≡ true) × (q ≡ true)
    both true q k = (refl, k)
    both false q k = absurd (cc)

-- and the other way round
pub under-gives : (b : Bool) (depths : FourDepths) (mask odd far i j x y : ℕ) → AreUnder depths mask odd far
    → x ≡ bit_and i mask → y ≡ bit_and j mask → b ≡ (nat_eq x odd && nat_eq y far)
    → ((u : Suit) → places_of (lane i u) (lane j u) all_ranks % 4 ^ depth_in depths u ≡ places_of (lane odd u) (lane far u) all_ranks) → IsTrue b
under-gives b depths mask odd far i j x y a ex ey is same =
    let t = numbers-same depths mask odd far i j a same in
    true-is b (is ∙ ap₂ (λ p q. p && q) (eq-eqb x odd (ex ∙ t.0)) (eq-eqb y far (ey ∙ t.1)))
