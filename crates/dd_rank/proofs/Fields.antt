-- how many bits are set, counted in fields of equal width that are put together two by two
use Rattle.std.proofs.Common.{◌≡◌, ℕ, zero, suc, ◌+◌, ◌-◌, ◌*◌, ◌/◌, ◌%◌, ◌^◌, ◌<◌, refl, sym, ap, ◌∙◌, arith, bit_and}
use Rattle.std.specs.Prelude.{count_ones}
use mathlib.Core.Path.{ap₂}
use Rattle.std.proofs.lemmas.Nat.{and_block, and_le_r, and_mask, mod_low, mod-pow-add, mul-add-lt, ones-le, ones_cat, pow-add, pow_pos, mod_below, shr-shr, shr_high, shr_split}
use Rattle.std.proofs.Math.Nat.{add-mul, mod-eq_of_lt, mul_assoc}
use Rattle.dd_rank.specs.Lanes.{suit_counts}

-- of n fields of w bits each, how many bits are set, in n fields of the same width
counts : ℕ → ℕ → ℕ → ℕ
counts w zero m = 0
counts w (suc n) m = counts w n (m / 2 ^ w) * 2 ^ w + count_ones (m % 2 ^ w)

-- the lower ones of n pairs of fields of w bits
lower : ℕ → ℕ → ℕ
lower w zero = 0
lower w (suc n) = lower w n * 2 ^ (w + w) + (2 ^ w - 1)

-- twice as many fields
pairs : ℕ → ℕ
pairs zero = 0
pairs (suc n) = suc (suc (pairs n))

-- in fields of one bit they are the bits
ones-count : (n m : ℕ) → counts 1 n m ≡ m % 2 ^ n
unfolding counts lib.Count.ones
ones-count zero m = (let e : m % 1 ≡ 0 = omega arith in sym e)
ones-count (suc n) m =
    ap₂ (λ a b. a * 2 + b) (ones-count n (m / 2)) (bit (m % 2) (omega arith)) ∙ sym (mod-pow-add m n 1) ∙ ap (λ k. m % 2 ^ k) (let e : n + 1 ≡ suc n = omega arith in e)
  where
    bit : (b : ℕ) → b < 2 → count_ones b ≡ b
    bit zero h = refl
    bit (suc zero) h = refl
    bit (suc (suc b)) h = absurd (omega (arith, h))

-- a field holds its count
count-small : (w x : ℕ) → w < 2 ^ w → x < 2 ^ w → count_ones x < 2 ^ w
count-small w x wide h = (let o = ones-le w x h in omega (arith, o, wide))

-- two fields and the others
regroup : (a b c p : ℕ) → (a * p + b) * p + c ≡ a * (p * p) + (b * p + c)
regroup a b c p = ap (λ n. n + c) (add-mul (a * p) b p) ∙ ap (λ n. n + b * p + c) (mul_assoc a p p) ∙ (let e : a * (p * p) + b * p + c ≡ a * (p * p) + (b * p + c) = omega arith in e)

-- Each two neighbours are added, in a field of twice the width.
paired : (w n m x : ℕ) → w < 2 ^ w → x ≡ counts w (pairs n) m → bit_and x (lower w n) + bit_and (x / 2 ^ w) (lower w n) ≡ counts (w + w) n m
unfolding counts lower pairs
paired w zero m x wide is = ap (λ y. bit_and y 0 + bit_and (y / 2 ^ w) 0) is ∙ none
  where
    none : bit_and 0 0 + bit_and (0 / 2 ^ w) 0 ≡ 0
    none = (let a = and_mask 0 0 in let b = and_mask (0 / 2 ^ w) 0 in omega (arith, a, b))
paired w (suc n) m x wide is =
    ap₂ (λ y z. bit_and y (lower w (suc n)) + bit_and z (lower w (suc n))) (is ∙ whole) (ap (λ y. y / 2 ^ w) is ∙ moved)
    ∙ ap₂ (λ y z. y + z)
    (and_block (w + w) rest (lower w n) (second * 2 ^ w + first) (2 ^ w - 1) (fits second first second-small first-small) mask-small ∙ ap (λ k. bit_and rest (lower w n) * 2 ^ (w + w) + k) (low second first first-small))
    (and_block (w + w) (rest / 2 ^ w) (lower w n) (rest % 2 ^ w * 2 ^ w + second) (2 ^ w - 1) (fits (rest % 2 ^ w) second (mod_below rest (2 ^ w) (pow_pos w)) second-small) mask-small ∙ ap (λ k. bit_and (rest / 2 ^ w) (lower w n) * 2 ^ (w + w) + k) (low (rest % 2 ^ w) second second-small))
    ∙ together (bit_and rest (lower w n)) (bit_and (rest / 2 ^ w) (lower w n)) first second (2 ^ (w + w))
    ∙ ap₂ (λ y z. y * 2 ^ (w + w) + z) (paired w n (m / 2 ^ w / 2 ^ w) rest wide refl ∙ ap (counts (w + w) n) (shr-shr m w w)) both
  where
    first : ℕ
    first = count_ones (m % 2 ^ w)

    second : ℕ
    second = count_ones (m / 2 ^ w % 2 ^ w)

    rest : ℕ
    rest = counts w (pairs n) (m / 2 ^ w / 2 ^ w)

    first-small : first < 2 ^ w
    first-small = count-small w (m % 2 ^ w) wide (mod_below m (2 ^ w) (pow_pos w))

    second-small : second < 2 ^ w
    second-small = count-small w (m / 2 ^ w % 2 ^ w) wide (mod_below (m / 2 ^ w) (2 ^ w) (pow_pos w))

    square : 2 ^ (w + w) ≡ 2 ^ w * 2 ^ w
    square = pow-add 2 w w

    group : (a b c : ℕ) → (a * 2 ^ w + b) * 2 ^ w + c ≡ a * 2 ^ (w + w) + (b * 2 ^ w + c)
    group a b c = regroup a b c (2 ^ w) ∙ ap (λ k. a * k + (b * 2 ^ w + c)) (sym square)

    whole : (rest * 2 ^ w + second) * 2 ^ w + first ≡ rest * 2 ^ (w + w) + (second * 2 ^ w + first)
    whole = group rest second first

    moved : ((rest * 2 ^ w + second) * 2 ^ w + first) / 2 ^ w ≡ rest / 2 ^ w * 2 ^ (w + w) + (rest % 2 ^ w * 2 ^ w + second)
    moved = shr_high (rest * 2 ^ w + second) w first first-small ∙ ap (λ k. k * 2 ^ w + second) (sym (shr_split rest w)) ∙ group (rest / 2 ^ w) (rest % 2 ^ w) second

    fits : (a b : ℕ) → a < 2 ^ w → b < 2 ^ w → a * 2 ^ w + b < 2 ^ (w + w)
    fits a b la lb = (let f = mul-add-lt a (2 ^ w) b (2 ^ w) la lb in let s = square in omega (arith, f, s))

    mask-small : 2 ^ w - 1 < 2 ^ (w + w)
    mask-small = (let f = fits 0 (2 ^ w - 1) (pow_pos w) (let p = pow_pos w in omega (arith, p)) in let e : 0 * 2 ^ w ≡ 0 = omega arith in omega (arith, f, e))

    low : (a b : ℕ) → b < 2 ^ w → bit_and (a * 2 ^ w + b) (2 ^ w - 1) ≡ b
    low a b lb = and_mask (a * 2 ^ w + b) w ∙ mod_low a w b lb

    together : (a b c d q : ℕ) → a * q + c + (b * q + d) ≡ (a + b) * q + (d + c)
    together a b c d q = (let e = add-mul a b q in omega (arith, e))

    both : second + first ≡ count_ones (m % 2 ^ (w + w))
    both = sym (ones_cat w (m / 2 ^ w % 2 ^ w) (m % 2 ^ w) (mod_below m (2 ^ w) (pow_pos w))) ∙ ap count_ones (sym (mod-pow-add m w w))

-- the masks that the code has
masks-one : lower 1 32 ≡ 6148914691236517205
unfolding lower
masks-one = refl

masks-two : lower 2 16 ≡ 3689348814741910323
unfolding lower
masks-two = refl

masks-four : lower 4 8 ≡ 1085102592571150095
unfolding lower
masks-four = refl

masks-eight : lower 8 4 ≡ 71777214294589695
unfolding lower
masks-eight = refl

-- Four times the neighbours are added: then each field is one of sixteen bits.
pub suits-counted : (m a b c d : ℕ) → m < 2 ^ 64 → a ≡ bit_and m 6148914691236517205 + bit_and (m / 2) 6148914691236517205 → b ≡ bit_and a 3689348814741910323 + bit_and (a / 4) 3689348814741910323
    → c ≡ bit_and b 1085102592571150095 + bit_and (b / 16) 1085102592571150095 → d ≡ bit_and c 71777214294589695 + bit_and (c / 256) 71777214294589695
    → d ≡ count_ones (m / 1 % 65536) + 65536 * (count_ones (m / 65536 % 65536) + 65536 * (count_ones (m / 4294967296 % 65536) + 65536 * (count_ones (m / 281474976710656 % 65536) + 65536 * 0)))
unfolding counts pairs
suits-counted m a b c d small ea eb ec ed = ed ∙ eight ∙ sum _ _ _ _ ∙ far ∙ ap (λ n. count_ones (n % 65536) + 65536 * (count_ones (m / 65536 % 65536) + 65536 * (count_ones (m / 4294967296 % 65536) + 65536 * (count_ones (m / 281474976710656 % 65536) + 65536 * 0)))) (let e : m ≡ m / 1 = omega arith in e)
  where
    one : a ≡ counts 2 32 m
    one = ea ∙ ap (λ k. bit_and m k + bit_and (m / 2) k) (sym masks-one) ∙ paired 1 32 m m (omega arith) (sym (ones-count 64 m ∙ mod-eq_of_lt small))

    two : b ≡ counts 4 16 m
    two = eb ∙ ap (λ k. bit_and a k + bit_and (a / 4) k) (sym masks-two) ∙ paired 2 16 m a (omega arith) one

    four : c ≡ counts 8 8 m
    four = ec ∙ ap (λ k. bit_and b k + bit_and (b / 16) k) (sym masks-four) ∙ paired 4 8 m b (omega arith) two

    eight : bit_and c 71777214294589695 + bit_and (c / 256) 71777214294589695 ≡ counts 16 4 m
    eight = ap (λ k. bit_and c k + bit_and (c / 256) k) (sym masks-eight) ∙ paired 8 4 m c (omega arith) four

    sum : (i j k l : ℕ) → (((0 * 65536 + l) * 65536 + k) * 65536 + j) * 65536 + i ≡ i + 65536 * (j + 65536 * (k + 65536 * (l + 65536 * 0)))
    sum i j k l = omega arith

    far : count_ones (m % 65536) + 65536 * (count_ones (m / 65536 % 65536) + 65536 * (count_ones (m / 65536 / 65536 % 65536) + 65536 * (count_ones (m / 65536 / 65536 / 65536 % 65536) + 65536 * 0)))
        ≡ count_ones (m % 65536) + 65536 * (count_ones (m / 65536 % 65536) + 65536 * (count_ones (m / 4294967296 % 65536) + 65536 * (count_ones (m / 281474976710656 % 65536) + 65536 * 0)))
    far =
        ap₂ (λ y z. count_ones (m % 65536) + 65536 * (count_ones (m / 65536 % 65536) + 65536 * (count_ones (y % 65536) + 65536 * (count_ones (z % 65536) + 65536 * 0))))
        (shr-shr m 16 16) (ap (λ n. n / 65536) (shr-shr m 16 16) ∙ shr-shr m 32 16)

-- The same as vectors add: modulo 2 ^ 64, of which no sum makes use.
pub suits-wrapped : (m : ℕ) → m < 2 ^ 64 → (a b c : ℕ) → a ≡ (bit_and m 6148914691236517205 + bit_and (m / 2) 6148914691236517205) % 2 ^ 64
    → b ≡ (bit_and a 3689348814741910323 + bit_and (a / 4) 3689348814741910323) % 2 ^ 64 → c ≡ (bit_and b 1085102592571150095 + bit_and (b / 16) 1085102592571150095) % 2 ^ 64
    → (bit_and c 71777214294589695 + bit_and (c / 256) 71777214294589695) % 2 ^ 64 ≡ suit_counts m
suits-wrapped m small a b c ea eb ec =
    plain c 256 71777214294589695 (omega arith)
    ∙ suits-counted m a b c _ small (ea ∙ plain m 2 6148914691236517205 (omega arith)) (eb ∙ plain a 4 3689348814741910323 (omega arith)) (ec ∙ plain b 16 1085102592571150095 (omega arith)) refl
  where
    plain : (n d k : ℕ) → k + k < 2 ^ 64 → (bit_and n k + bit_and (n / d) k) % 2 ^ 64 ≡ bit_and n k + bit_and (n / d) k
    plain n d k fits = (let x = and_le_r n k in let y = and_le_r (n / d) k in mod-eq_of_lt (omega (arith, x, y, fits)))
