-- the table that spreads seven bits
use Rattle.std.proofs.Common.{◌≡◌, ℕ, zero, suc, ◌+◌, ◌*◌, ◌/◌, ◌%◌, ◌^◌, ◌<◌, Bool, true, refl, sym, ap, ◌∙◌, arith, bit_and, eqb-true, List, [], ◌∷◌, slice_index_or, inl, inr}
use Rattle.std.specs.Prelude.{◌==◌, ◌&&◌}
use Rattle.std.specs.Int.{bit_at}
use mathlib.Core.Path.{ap₂}
use Rattle.std.proofs.lemmas.Nat.{and_mask}
use Rattle.std.proofs.lemmas.Bool.Decides.{eqb_tells}
use Rattle.dd_cards.specs.Ranks.{all_ranks, lowest_ranks}
use Rattle.dd_cards.proofs.CallerLemmas.{and-left, and-right}
use Rattle.dd_rank.specs.declared.lanes.TheConstants.{SPREAD}
use Rattle.dd_cards.specs.declared.suit.Suit.{Suit}
use Rattle.dd_cards.specs.Suits.{suit_shift}
use Rattle.dd_rank.specs.Lanes.{lane, places_of}
use Rattle.dd_rank.proofs.FourLanes.{lane-bit}
use Rattle.dd_rank.proofs.Gaps.{places-low}
use Rattle.std.proofs.lemmas.Nat.Bits.{bit_at-zero}

-- the n lowest bits, the highest of them as the lowest digit to the base 4
abbrev spread_bits : ℕ → ℕ → ℕ
spread_bits zero b = 0
spread_bits (suc n) b = b / 2 ^ n % 2 + 4 * spread_bits n b

-- the table is right for each number below n
right_below : ℕ → Bool
right_below zero = true
right_below (suc n) = (slice_index_or SPREAD n 0 == spread_bits 7 n) && right_below n

right : right_below 128 ≡ true
unfolding right_below
right = refl

right-at : (n i : ℕ) → right_below n ≡ true → i < n → slice_index_or SPREAD i 0 ≡ spread_bits 7 i
unfolding right_below
right-at zero i all h = absurd (omega arith)
right-at (suc n) i all h = elim (eqb_tells i n) [
  | inl same ↦ ap (λ j. slice_index_or SPREAD j 0) same.1 ∙ eqb-true _ _ (and-left (slice_index_or SPREAD n 0 == spread_bits 7 n) (right_below n) all) ∙ ap (spread_bits 7) (sym same.1)
  | inr other ↦ right-at n i (and-right (slice_index_or SPREAD n 0 == spread_bits 7 n) (right_below n) all) (omega (arith, other.1))
]

-- seven bits
seven : (b : ℕ) → b < 128 → slice_index_or SPREAD b 0 ≡ b / 64 % 2 + 4 * (b / 32 % 2) + 16 * (b / 16 % 2) + 64 * (b / 8 % 2) + 256 * (b / 4 % 2) + 1024 * (b / 2 % 2) + 4096 * (b % 2)
seven b h = right-at 128 b right h ∙ sum (b / 64 % 2) (b / 32 % 2) (b / 16 % 2) (b / 8 % 2) (b / 4 % 2) (b / 2 % 2) (b / 1 % 2) (b % 2) (let e : b / 1 % 2 ≡ b % 2 = omega arith in e)
  where
    sum : (p q r s t u v w : ℕ) → v ≡ w → p + 4 * (q + 4 * (r + 4 * (s + 4 * (t + 4 * (u + 4 * (v + 4 * 0)))))) ≡ p + 4 * q + 16 * r + 64 * s + 256 * t + 1024 * u + 4096 * w
    sum p q r s t u v w e = omega arith

-- the bits of the ranks, from the ace's down
thirteen : (x : ℕ) → places_of x 0 all_ranks ≡ x / 16384 % 2 + 4 * (x / 8192 % 2) + 16 * (x / 4096 % 2) + 64 * (x / 2048 % 2) + 256 * (x / 1024 % 2) + 1024 * (x / 512 % 2) + 4096 * (x / 256 % 2)
    + 16384 * (x / 128 % 2 + 4 * (x / 64 % 2) + 16 * (x / 32 % 2) + 64 * (x / 16 % 2) + 256 * (x / 8 % 2) + 1024 * (x / 4 % 2))
unfolding all_ranks lowest_ranks
thirteen x = sum (x / 16384 % 2) (x / 8192 % 2) (x / 4096 % 2) (x / 2048 % 2) (x / 1024 % 2) (x / 512 % 2) (x / 256 % 2) (x / 128 % 2) (x / 64 % 2) (x / 32 % 2) (x / 16 % 2) (x / 8 % 2) (x / 4 % 2)
  where
    sum : (a b c d e f g h i j k l m : ℕ) → a + 0 + 4 * (b + 0 + 4 * (c + 0 + 4 * (d + 0 + 4 * (e + 0 + 4 * (f + 0 + 4 * (g + 0 + 4 * (h + 0 + 4 * (i + 0 + 4 * (j + 0 + 4 * (k + 0 + 4 * (l + 0 + 4 * (m + 0 + 4 * 0))))))))))))
        ≡ a + 4 * b + 16 * c + 64 * d + 256 * e + 1024 * f + 4096 * g + 16384 * (h + 4 * i + 16 * j + 64 * k + 256 * l + 1024 * m)
    sum a b c d e f g h i j k l m = omega arith

-- the upper seven bits and the lower six
pub spread-tells : (x : ℕ) → slice_index_or SPREAD (bit_and (x / 256) 127) 0 + slice_index_or SPREAD (2 * bit_and (x / 4) 63) 0 * 16384 ≡ places_of x 0 all_ranks
spread-tells x =
    ap₂ (λ u l. slice_index_or SPREAD u 0 + slice_index_or SPREAD (2 * l) 0 * 16384) (and_mask (x / 256) 7) (and_mask (x / 4) 6)
    ∙ ap₂ (λ u l. u + l * 16384) (seven (x / 256 % 128) (omega arith) ∙ upper) (seven (2 * (x / 4 % 64)) (omega arith) ∙ lower)
    ∙ sum _ _ ∙ sym (thirteen x)
  where
    upper : x / 256 % 128 / 64 % 2 + 4 * (x / 256 % 128 / 32 % 2) + 16 * (x / 256 % 128 / 16 % 2) + 64 * (x / 256 % 128 / 8 % 2) + 256 * (x / 256 % 128 / 4 % 2) + 1024 * (x / 256 % 128 / 2 % 2) + 4096 * (x / 256 % 128 % 2)
        ≡ x / 16384 % 2 + 4 * (x / 8192 % 2) + 16 * (x / 4096 % 2) + 64 * (x / 2048 % 2) + 256 * (x / 1024 % 2) + 1024 * (x / 512 % 2) + 4096 * (x / 256 % 2)
    upper =
        let a : x / 256 % 128 / 64 % 2 ≡ x / 16384 % 2 = omega arith in
        let b : x / 256 % 128 / 32 % 2 ≡ x / 8192 % 2 = omega arith in
        let c : x / 256 % 128 / 16 % 2 ≡ x / 4096 % 2 = omega arith in
        let d : x / 256 % 128 / 8 % 2 ≡ x / 2048 % 2 = omega arith in
        let e : x / 256 % 128 / 4 % 2 ≡ x / 1024 % 2 = omega arith in
        let f : x / 256 % 128 / 2 % 2 ≡ x / 512 % 2 = omega arith in
        let g : x / 256 % 128 % 2 ≡ x / 256 % 2 = omega arith in
        rw (a, b, c, d, e, f, g) refl

    lower : 2 * (x / 4 % 64) / 64 % 2 + 4 * (2 * (x / 4 % 64) / 32 % 2) + 16 * (2 * (x / 4 % 64) / 16 % 2) + 64 * (2 * (x / 4 % 64) / 8 % 2) + 256 * (2 * (x / 4 % 64) / 4 % 2) + 1024 * (2 * (x / 4 % 64) / 2 % 2) + 4096 * (2 * (x / 4 % 64) % 2)
        ≡ x / 128 % 2 + 4 * (x / 64 % 2) + 16 * (x / 32 % 2) + 64 * (x / 16 % 2) + 256 * (x / 8 % 2) + 1024 * (x / 4 % 2) + 4096 * 0
    lower =
        let a : 2 * (x / 4 % 64) / 64 % 2 ≡ x / 128 % 2 = omega arith in
        let b : 2 * (x / 4 % 64) / 32 % 2 ≡ x / 64 % 2 = omega arith in
        let c : 2 * (x / 4 % 64) / 16 % 2 ≡ x / 32 % 2 = omega arith in
        let d : 2 * (x / 4 % 64) / 8 % 2 ≡ x / 16 % 2 = omega arith in
        let e : 2 * (x / 4 % 64) / 4 % 2 ≡ x / 8 % 2 = omega arith in
        let f : 2 * (x / 4 % 64) / 2 % 2 ≡ x / 4 % 2 = omega arith in
        let g : 2 * (x / 4 % 64) % 2 ≡ 0 = omega arith in
        rw (a, b, c, d, e, f, g) refl

    sum : (u l : ℕ) → u + (l + 4096 * 0) * 16384 ≡ u + 16384 * l
    sum u l = omega arith

-- twenty-six bits
pub spread-small : (x : ℕ) → places_of x 0 all_ranks < 2 ^ 26
spread-small x = (let e = thirteen x in omega (arith, e))

-- ---- both of a suit's sets of bits
-- what the two tell together
places-apart : (y z : ℕ) (ranks : List ℕ) → places_of y z ranks ≡ places_of y 0 ranks + 2 * places_of z 0 ranks
places-apart y z [] = refl
places-apart y z (r ∷ ranks) = sum (bit_at y r) (bit_at z r) (bit_at 0 r) _ _ _ (bit_at-zero r) (places-apart y z ranks)
  where
    sum : (a b o n m k : ℕ) → o ≡ 0 → n ≡ m + 2 * k → a + 2 * b + 4 * n ≡ a + 2 * o + 4 * m + 2 * (b + 2 * o + 4 * k)
    sum a b o n m k eo en = omega arith

-- a lane is the lower part of the number moved down
lane-read : (x : ℕ) (u : Suit) → places_of (lane x u) 0 all_ranks ≡ places_of (x / 2 ^ suit_shift u) 0 all_ranks
unfolding all_ranks
lane-read x u = places-low 13 (lane x u) 0 (x / 2 ^ suit_shift u) 0 (λ r h. lane-bit x u r (omega (arith, h))) (λ r h. refl)

-- the owners of a suit
pub lane-owners : (odd far : ℕ) (u : Suit) (a b : ℕ) → a ≡ places_of (odd / 2 ^ suit_shift u) 0 all_ranks → b ≡ places_of (far / 2 ^ suit_shift u) 0 all_ranks
    → a + 2 * b ≡ places_of (lane odd u) (lane far u) all_ranks
lane-owners odd far u a b ea eb =
    ap₂ (λ m n. m + 2 * n) (ea ∙ sym (lane-read odd u)) (eb ∙ sym (lane-read far u)) ∙ sym (places-apart (lane odd u) (lane far u) all_ranks)
