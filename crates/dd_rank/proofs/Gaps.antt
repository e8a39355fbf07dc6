-- one suit whose gaps are closed: what its bits tell from the highest bit down
use Rattle.std.proofs.Common.{◌≡◌, ℕ, zero, suc, ◌+◌, ◌*◌, ◌/◌, ◌%◌, ◌^◌, ◌<◌, ◌≤◌, Bool, true, false, cond, refl, sym, ap, ◌∙◌, arith, ◌∷◌}
use Rattle.std.specs.Prelude.{filter, ◌==◌}
use Rattle.std.specs.Int.{bit_at}
use mathlib.Core.Path.{ap₂}
use Rattle.std.proofs.lemmas.Nat.{shr-shr, shr_high, mod_low}
use Rattle.std.proofs.lemmas.Nat.Bits.{bit_at-lt, bit_at-suc, bit_at_cat_low}
use Rattle.std.proofs.Math.Nat.{pow-le-pow_right, div-mul-le_self}
use Rattle.dd_cards.specs.Ranks.{lowest_ranks}
use Rattle.dd_rank.specs.Lanes.{is_clear, places_of}

-- the bits of x below bit k + 2 that are clear in `gone`, moved up so that they end at bit k + 1 with no gap
unfoldable pub closed : ℕ → ℕ → ℕ → ℕ
closed zero gone x = 0
closed (suc k) gone x = cond (is_clear gone (k + 2)) (bit_at x (k + 2) * 2 ^ (k + 2) + closed k gone x) (2 * closed k gone x)

-- twice as much a place higher
twice : (k : ℕ) → 2 ^ (suc k + 2) ≡ 2 * 2 ^ (k + 2)
twice k = ap (λ n. 2 ^ n) (let e : suc k + 2 ≡ suc (k + 2) = omega arith in e) ∙ (let e : 2 ^ suc (k + 2) ≡ 2 * 2 ^ (k + 2) = omega arith in e)

-- a power of two from four on
four-times : (k : ℕ) → 2 ^ (k + 2) ≡ 4 * 2 ^ k
four-times zero = refl
four-times (suc k) = twice k ∙ (let ih = four-times k in let e : 2 ^ suc k ≡ 2 * 2 ^ k = omega arith in omega (arith, ih, e))

-- what is put together is small, and has no bit below the ranks
joined-small : (b c k : ℕ) → b < 2 → c < 2 ^ (k + 2) → c % 4 ≡ 0 → (b * 2 ^ (k + 2) + c < 2 ^ (suc k + 2)) × ((b * 2 ^ (k + 2) + c) % 4 ≡ 0)
joined-small b c k = go b
  where
    go : (b : ℕ) → b < 2 → c < 2 ^ (k + 2) → c % 4 ≡ 0 → (b * 2 ^ (k + 2) + c < 2 ^ (suc k + 2)) × ((b * 2 ^ (k + 2) + c) % 4 ≡ 0)
    go zero h low none = (let t = twice k in let e : 0 * 2 ^ (k + 2) ≡ 0 = omega arith in omega (arith, t, e), let e : 0 * 2 ^ (k + 2) ≡ 0 = omega arith in omega (arith, e))
    go (suc zero) h low none = (
      let t = twice k in let e : 1 * 2 ^ (k + 2) ≡ 2 ^ (k + 2) = omega arith in omega (arith, t, e),
      let f = four-times k in let e : 1 * 2 ^ (k + 2) ≡ 2 ^ (k + 2) = omega arith in omega (arith, f, e),
    )
    go (suc (suc b)) h low none = absurd (omega (arith, h))

pub closed-small : (k gone x : ℕ) → (closed k gone x < 2 ^ (k + 2)) × (closed k gone x % 4 ≡ 0)
unfolding closed
closed-small zero gone x = (omega arith, omega arith)
closed-small (suc k) gone x = go (is_clear gone (k + 2)) (closed-small k gone x)
  where
    go : (b : Bool) → (closed k gone x < 2 ^ (k + 2)) × (closed k gone x % 4 ≡ 0)
        → (cond b (bit_at x (k + 2) * 2 ^ (k + 2) + closed k gone x) (2 * closed k gone x) < 2 ^ (suc k + 2))
        × (cond b (bit_at x (k + 2) * 2 ^ (k + 2) + closed k gone x) (2 * closed k gone x) % 4 ≡ 0)
    go true ih = joined-small (bit_at x (k + 2)) (closed k gone x) k (bit_at-lt x (k + 2)) ih.0 ih.1
    go false ih = (let t = twice k in let a = ih.0 in omega (arith, t, a), let a = ih.1 in omega (arith, a))

-- only the bits of the ranks are read
pub places-low : (k y z v w : ℕ) → ((r : ℕ) → r < k + 2 → bit_at y r ≡ bit_at v r) → ((r : ℕ) → r < k + 2 → bit_at z r ≡ bit_at w r)
    → places_of y z (lowest_ranks k) ≡ places_of v w (lowest_ranks k)
unfolding lowest_ranks
places-low zero y z v w same_y same_z = refl
places-low (suc k) y z v w same_y same_z =
    let ih = places-low k y z v w (λ r h. same_y r (omega (arith, h))) (λ r h. same_z r (omega (arith, h))) in
    ap₂ (λ d n. d + 4 * n) (ap₂ (λ a b. a + 2 * b) (same_y (k + 2) (omega arith)) (same_z (k + 2) (omega arith))) ih

-- a bit of twice a number
bit-twice : (y r : ℕ) → bit_at (2 * y) (suc r) ≡ bit_at y r
bit-twice y r = bit_at-suc (2 * y) r ∙ ap (λ n. bit_at n r) (let e : 2 * y / 2 ≡ y = omega arith in e)

-- bits that are moved up are read a place earlier
places-twice : (k y z : ℕ) → y % 4 ≡ 0 → z % 4 ≡ 0 → places_of (2 * y) (2 * z) (lowest_ranks (suc k)) ≡ places_of y z (lowest_ranks k)
unfolding lowest_ranks
places-twice zero y z none_y none_z = (
    let a : 2 * y / 4 % 2 ≡ 0 = omega (arith, none_y) in
    let b : 2 * z / 4 % 2 ≡ 0 = omega (arith, none_z) in
    ap₂ (λ m n. m + 2 * n + 4 * 0) a b)
places-twice (suc k) y z none_y none_z =
    let same : suc k + 2 ≡ suc (k + 2) = omega arith in
    let digit : (x : ℕ) → bit_at (2 * x) (suc k + 2) ≡ bit_at x (k + 2) = λ x. ap (bit_at (2 * x)) same ∙ bit-twice x (k + 2) in
    ap₂ (λ d n. d + 4 * n) (ap₂ (λ a b. a + 2 * b) (digit y) (digit z)) (places-twice k y z none_y none_z)

-- the bit that is put on top
top-bit : (b c k : ℕ) → b < 2 → c < 2 ^ (k + 2) → bit_at (b * 2 ^ (k + 2) + c) (k + 2) ≡ b
top-bit b c k few low = ap (λ n. n % 2) (shr_high b (k + 2) c low) ∙ (let e : b % 2 ≡ b = omega (arith, few) in e)

-- Read with the gaps closed, the bits tell what they tell of the ranks that are left.
pub closed-tells : (k gone y z : ℕ) → places_of (closed k gone y) (closed k gone z) (lowest_ranks k) ≡ places_of y z (filter (is_clear gone) (lowest_ranks k))
unfolding closed lowest_ranks
closed-tells zero gone y z = refl
closed-tells (suc k) gone y z = go (is_clear gone (k + 2)) (closed-small k gone y) (closed-small k gone z) (closed-tells k gone y z)
  where
    r : ℕ
    r = k + 2

    c : ℕ
    c = closed k gone y

    d : ℕ
    d = closed k gone z

    go : (b : Bool) → (c < 2 ^ (k + 2)) × (c % 4 ≡ 0) → (d < 2 ^ (k + 2)) × (d % 4 ≡ 0) → places_of c d (lowest_ranks k) ≡ places_of y z (filter (is_clear gone) (lowest_ranks k))
        → places_of (cond b (bit_at y (k + 2) * 2 ^ (k + 2) + c) (2 * c)) (cond b (bit_at z (k + 2) * 2 ^ (k + 2) + d) (2 * d)) ((k + 2) ∷ lowest_ranks k)
        ≡ places_of y z (cond b ((k + 2) ∷ filter (is_clear gone) (lowest_ranks k)) (filter (is_clear gone) (lowest_ranks k)))
    go true small_c small_d ih =
        ap₂ (λ e n. e + 4 * n)
        (ap₂ (λ a b. a + 2 * b) (top-bit (bit_at y (k + 2)) c k (bit_at-lt y (k + 2)) small_c.0) (top-bit (bit_at z (k + 2)) d k (bit_at-lt z (k + 2)) small_d.0))
        (places-low k _ _ c d (λ i h. bit_at_cat_low (bit_at y (k + 2)) (k + 2) c i h) (λ i h. bit_at_cat_low (bit_at z (k + 2)) (k + 2) d i h) ∙ ih)
    go false small_c small_d ih = places-twice k c d small_c.1 small_d.1 ∙ ih

-- ---- one step of the walk that closes the gaps, from the lowest rank up
-- the bits from bit k + 2 on as they were, and below them those without gaps
abbrev pub half : ℕ → ℕ → ℕ → ℕ
half k gone x = x / 2 ^ (k + 2) * 2 ^ (k + 2) + closed k gone x

-- at the start nothing has moved
pub half-start : (gone x : ℕ) → x % 4 ≡ 0 → half 0 gone x ≡ x
unfolding closed
half-start gone x none = (let e : x / 4 * 4 + 0 ≡ x = omega (arith, none) in e)

-- at the end all bits have
pub half-end : (gone x : ℕ) → x < 2 ^ 15 → half 13 gone x ≡ closed 13 gone x
half-end gone x small = (let e : x / 32768 * 32768 ≡ 0 = omega (arith, small) in ap (λ n. n + closed 13 gone x) e ∙ (let f : 0 + closed 13 gone x ≡ closed 13 gone x = omega arith in f))

-- sixteen bits are enough
pub half-small : (k gone x : ℕ) → k ≤ 13 → x < 2 ^ 15 → half k gone x < 2 ^ 16
half-small k gone x most small =
    let c = (closed-small k gone x).0 in
    let p : 2 ^ (k + 2) ≤ 2 ^ 15 = pow-le-pow_right {n = 2} (omega arith) {i = k + 2} {j = 15} (omega (arith, most)) in
    let q : x / 2 ^ (k + 2) * 2 ^ (k + 2) ≤ x = div-mul-le_self x (2 ^ (k + 2)) in
    omega (arith, c, p, q, small)

-- the part below is what is closed
pub half-below : (k gone x : ℕ) → half k gone x % 2 ^ (k + 2) ≡ closed k gone x
half-below k gone x = mod_low (x / 2 ^ (k + 2)) (k + 2) (closed k gone x) (closed-small k gone x).0

-- One more rank: where it is gone, what lies below moves up.
pub half-step : (k gone x : ℕ) → (bit_at gone (k + 2) ≡ 1 → bit_at x (k + 2) ≡ 0) → half k gone x + bit_at gone (k + 2) * (half k gone x % 2 ^ (k + 2)) ≡ half (suc k) gone x
unfolding closed
half-step k gone x apart = ap (λ n. half k gone x + bit_at gone (k + 2) * n) (half-below k gone x) ∙ go (bit_at gone (k + 2)) (bit_at-lt gone (k + 2)) apart
  where
    p : ℕ
    p = 2 ^ (k + 2)

    h : ℕ
    h = x / 2 ^ (k + 2)

    halved : x / 2 ^ (suc k + 2) ≡ x / 2 ^ (k + 2) / 2
    halved = ap (λ n. x / 2 ^ n) (let e : suc k + 2 ≡ k + 2 + 1 = omega arith in e) ∙ sym (shr-shr x (k + 2) 1)

    parts : (h q b p : ℕ) → b < 2 → h ≡ 2 * q + b → q * (2 * p) + b * p ≡ h * p
    parts h q b p few e = cut b few e
      where
        cut : (b : ℕ) → b < 2 → h ≡ 2 * q + b → q * (2 * p) + b * p ≡ h * p
        cut zero f g = rw g (grind (arith))
        cut (suc zero) f g = rw g (grind (arith))
        cut (suc (suc b)) f g = absurd (omega (arith, f))

    upper : x / 2 ^ (suc k + 2) * 2 ^ (suc k + 2) + bit_at x (k + 2) * 2 ^ (k + 2) ≡ x / 2 ^ (k + 2) * 2 ^ (k + 2)
    upper = ap₂ (λ a b. a * b + bit_at x (k + 2) * 2 ^ (k + 2)) halved (twice k) ∙ parts h (h / 2) (h % 2) p (omega arith) (omega arith)

    go : (e : ℕ) → e < 2 → (e ≡ 1 → bit_at x (k + 2) ≡ 0)
        → x / 2 ^ (k + 2) * 2 ^ (k + 2) + closed k gone x + e * closed k gone x
        ≡ x / 2 ^ (suc k + 2) * 2 ^ (suc k + 2) + cond (e == 0) (bit_at x (k + 2) * 2 ^ (k + 2) + closed k gone x) (2 * closed k gone x)
    go zero few apart = (let u = upper in let e : 0 * closed k gone x ≡ 0 = omega arith in omega (arith, u, e))
    go (suc zero) few apart = (
        let u = upper in
        let e : 1 * closed k gone x ≡ closed k gone x = omega arith in
        let none : bit_at x (k + 2) * 2 ^ (k + 2) ≡ 0 = ap (λ n. n * 2 ^ (k + 2)) (apart refl) ∙ (let z : 0 * 2 ^ (k + 2) ≡ 0 = omega arith in z) in
        omega (arith, u, e, none))
    go (suc (suc e)) few apart = absurd (omega (arith, few))
