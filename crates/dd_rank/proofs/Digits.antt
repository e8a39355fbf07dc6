-- numbers by their digits
use Rattle.std.proofs.Common.{◌≡◌, ℕ, zero, suc, ◌+◌, ◌*◌, ◌/◌, ◌%◌, ◌^◌, ◌<◌, refl, sym, ap, ◌∙◌, arith, List, [], ◌∷◌, length, get_or, drop}
use Rattle.std.specs.Prelude.{map}
use Rattle.std.proofs.Math.Nat.{mod-add-div', mod-eq_of_lt}
use Rattle.std.proofs.lemmas.Nat.{mod-mul-add}
use Rattle.dd_rank.specs.Strings.{number_of}

-- as many values as arguments
pub length-map : (f : ℕ → ℕ) (xs : List ℕ) → length (map f xs) ≡ length xs
length-map f [] = refl
length-map f (x ∷ xs) = ap suc (length-map f xs)

-- each number of the list is a digit to the base 4
abbrev pub AreDigits : List ℕ → Type 0
AreDigits xs = (i : ℕ) → get_or xs i 0 < 4

-- a positive power of four
pub power-pos : (d : ℕ) → 0 < 4 ^ d
power-pos zero = omega arith
power-pos (suc d) = let ih = power-pos d in let e : 4 ^ suc d ≡ 4 * 4 ^ d = omega arith in omega (arith, ih, e)

-- the lowest digit and the others, below a power of four
pub below-power : (x n d : ℕ) → x < 4 → (x + 4 * n) % 4 ^ suc d ≡ x + 4 * (n % 4 ^ d)
below-power x n d digit =
    let p : 0 < 4 ^ d = power-pos d in
    let split : n % 4 ^ d + n / 4 ^ d * 4 ^ d ≡ n = mod-add-div' n (4 ^ d) in
    let less : n % 4 ^ d < 4 ^ d = omega (arith, p) in
    let power : 4 ^ suc d ≡ 4 * 4 ^ d = omega arith in
    let whole : x + 4 * n ≡ n / 4 ^ d * 4 ^ suc d + (x + 4 * (n % 4 ^ d)) = parts x n (4 ^ d) (n / 4 ^ d) (n % 4 ^ d) (4 ^ suc d) split power in
    ap (λ m. m % 4 ^ suc d) whole ∙ mod-mul-add (n / 4 ^ d) (4 ^ suc d) (x + 4 * (n % 4 ^ d)) (omega (arith, less, power, digit))
  where
    parts : (x n p q r w : ℕ) → r + q * p ≡ n → w ≡ 4 * p → x + 4 * n ≡ q * w + (x + 4 * r)
    parts x n p q r w split power = rw power (omega (arith, split))

-- a number is its lowest digit and four times the number of the others
split-number : (xs : List ℕ) → number_of 4 xs ≡ get_or xs 0 0 + 4 * number_of 4 (drop 1 xs)
split-number [] = refl
split-number (x ∷ xs) = refl

-- the digits behind the first
behind : (xs : List ℕ) (i : ℕ) → get_or xs (suc i) 0 ≡ get_or (drop 1 xs) i 0
behind [] i = refl
behind (x ∷ xs) i = refl

-- .. are digits
rest-digits : (xs : List ℕ) → AreDigits xs → AreDigits (drop 1 xs)
rest-digits xs digits i = (let h = digits (suc i) in let e = behind xs i in omega (arith, h, e))

-- the lower part of a number, by its lowest digit
lower-part : (d : ℕ) (xs : List ℕ) → AreDigits xs → number_of 4 xs % 4 ^ suc d ≡ get_or xs 0 0 + 4 * (number_of 4 (drop 1 xs) % 4 ^ d)
lower-part d xs digits = ap (λ n. n % 4 ^ suc d) (split-number xs) ∙ below-power (get_or xs 0 0) (number_of 4 (drop 1 xs)) d (digits 0)

-- numbers with the same lowest digits have one lower part
pub digits-give : (d : ℕ) (xs ys : List ℕ) → AreDigits xs → AreDigits ys → ((i : ℕ) → i < d → get_or ys i 0 ≡ get_or xs i 0) → number_of 4 ys % 4 ^ d ≡ number_of 4 xs % 4 ^ d
digits-give zero xs ys digits_x digits_y same = omega arith
digits-give (suc d) xs ys digits_x digits_y same =
    let ih = digits-give d (drop 1 xs) (drop 1 ys) (rest-digits xs digits_x) (rest-digits ys digits_y) (λ i h. sym (behind ys i) ∙ same (suc i) (omega (arith, h)) ∙ behind xs i) in
    let a = lower-part d xs digits_x in
    let b = lower-part d ys digits_y in
    let first = same 0 (omega arith) in
    omega (arith, ih, a, b, first)

-- .. and the other way round
pub digits-tell : (d : ℕ) (xs ys : List ℕ) → AreDigits xs → AreDigits ys → number_of 4 ys % 4 ^ d ≡ number_of 4 xs % 4 ^ d → (i : ℕ) → i < d → get_or ys i 0 ≡ get_or xs i 0
digits-tell zero xs ys digits_x digits_y e i h = absurd (omega (arith, h))
digits-tell (suc d) xs ys digits_x digits_y e i h =
    let a = lower-part d xs digits_x in
    let b = lower-part d ys digits_y in
    let x = digits_x 0 in
    let y = digits_y 0 in
    let first : get_or ys 0 0 ≡ get_or xs 0 0 = omega (arith, a, b, x, y, e) in
    let rest : number_of 4 (drop 1 ys) % 4 ^ d ≡ number_of 4 (drop 1 xs) % 4 ^ d = omega (arith, a, b, x, y, e) in
    each i h first (λ j k. digits-tell d (drop 1 xs) (drop 1 ys) (rest-digits xs digits_x) (rest-digits ys digits_y) rest j k)
  where
    each : (i : ℕ) → i < suc d → get_or ys 0 0 ≡ get_or xs 0 0 → ((j : ℕ) → j < d → get_or (drop 1 ys) j 0 ≡ get_or (drop 1 xs) j 0) → get_or ys i 0 ≡ get_or xs i 0
    each zero h first rest = first
    each (suc j) h first rest = behind ys j ∙ rest j (omega (arith, h)) ∙ sym (behind xs j)

-- a number is below the power of four of the number of its digits
pub number-below : (xs : List ℕ) → AreDigits xs → number_of 4 xs < 4 ^ length xs
number-below [] digits = omega arith
number-below (x ∷ xs) digits =
    let ih = number-below xs (rest-digits (x ∷ xs) digits) in
    let first : x < 4 = digits 0 in
    let e : 4 ^ suc (length xs) ≡ 4 * 4 ^ length xs = omega arith in
    omega (arith, ih, first, e)

-- so it is its own lower part
pub whole-number : (xs : List ℕ) → AreDigits xs → number_of 4 xs % 4 ^ length xs ≡ number_of 4 xs
whole-number xs digits = mod-eq_of_lt (number-below xs digits)

-- a digit to the base 4 takes two bits
pub two-bits : (d : ℕ) → 2 ^ (2 * d) ≡ 4 ^ d
two-bits zero = refl
two-bits (suc d) =
    let ih = two-bits d in
    let e : 2 * suc d ≡ suc (suc (2 * d)) = omega arith in
    let a : 2 ^ suc (suc (2 * d)) ≡ 2 * (2 * 2 ^ (2 * d)) = omega arith in
    let b : 4 ^ suc d ≡ 4 * 4 ^ d = omega arith in
    ap (λ n. 2 ^ n) e ∙ omega (arith, ih, a, b)

-- powers of four tell their exponents
pub powers-tell : (d e : ℕ) → 4 ^ d ≡ 4 ^ e → d ≡ e
powers-tell zero zero same = refl
powers-tell zero (suc e) same = absurd (let p = power-pos e in let a : 4 ^ suc e ≡ 4 * 4 ^ e = omega arith in omega (arith, same, p, a))
powers-tell (suc d) zero same = absurd (let p = power-pos d in let a : 4 ^ suc d ≡ 4 * 4 ^ d = omega arith in omega (arith, same, p, a))
powers-tell (suc d) (suc e) same =
    let a : 4 ^ suc d ≡ 4 * 4 ^ d = omega arith in
    let b : 4 ^ suc e ≡ 4 * 4 ^ e = omega arith in
    ap suc (powers-tell d e (omega (arith, same, a, b)))
