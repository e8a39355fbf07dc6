-- who holds the highest card of each suit
use Rattle.std.proofs.Common.{◌≡◌, ℕ, ◌+◌, ◌*◌, ◌/◌, ◌%◌, ◌^◌, ◌<◌, sym, ◌∙◌, arith, bit_and}
use mathlib.Core.Path.{ap₂}
use Rattle.std.specs.Int.{bit_at}
use Rattle.std.proofs.lemmas.Nat.{and_le_r}
use Rattle.std.proofs.lemmas.Nat.Bits.{bit_at-lt}
use Rattle.dd_cards.specs.declared.suit.Suit.{Suit}
use Rattle.dd_cards.specs.declared.suit.Suit.TheVariants.{Spades, Hearts, Diamonds, Clubs}
use Rattle.dd_cards.specs.Ranks.{all_ranks, lowest_ranks}
use Rattle.dd_rank.specs.Lanes.{highest_in, lane, places_of}
use Rattle.dd_rank.proofs.FourLanes.{lanes, lane-ones, lanes-of, lanes-same}

-- the bit of the highest card of each suit, as the lowest of its sixteen
highest-bits : (x : ℕ) → bit_and (x / 2 ^ 14) 281479271743489 ≡ lanes (λ u. bit_at (lane x u) 14)
highest-bits x =
    sym (lanes-of (bit_and (x / 2 ^ 14) 281479271743489) (let l = and_le_r (x / 2 ^ 14) 281479271743489 in omega (arith, l)))
    ∙ lanes-same (lane (bit_and (x / 2 ^ 14) 281479271743489)) (λ u. bit_at (lane x u) 14) (λ u. lane-ones x 14 u (omega arith))

-- both bits of each suit, side by side
pub highest-coded : (odd far : ℕ) → (bit_and (odd / 2 ^ 14) 281479271743489 + 2 * bit_and (far / 2 ^ 14) 281479271743489) * 281492157628480 % 2 ^ 64 / 2 ^ 48
    ≡ (highest_in odd far Spades * 4 + highest_in odd far Hearts) * 16 + (highest_in odd far Diamonds * 4 + highest_in odd far Clubs)
highest-coded odd far =
    sum (bit_and (odd / 2 ^ 14) 281479271743489) (bit_and (far / 2 ^ 14) 281479271743489) (bit_at (lane odd Clubs) 14) (bit_at (lane odd Diamonds) 14) (bit_at (lane odd Hearts) 14) (bit_at (lane odd Spades) 14)
    (bit_at (lane far Clubs) 14) (bit_at (lane far Diamonds) 14) (bit_at (lane far Hearts) 14) (bit_at (lane far Spades) 14)
    (bit_at-lt (lane odd Clubs) 14) (bit_at-lt (lane odd Diamonds) 14) (bit_at-lt (lane odd Hearts) 14) (bit_at-lt (lane odd Spades) 14)
    (bit_at-lt (lane far Clubs) 14) (bit_at-lt (lane far Diamonds) 14) (bit_at-lt (lane far Hearts) 14) (bit_at-lt (lane far Spades) 14) (highest-bits odd) (highest-bits far)
  where
    sum : (x y a b c d e f g h : ℕ) → a < 2 → b < 2 → c < 2 → d < 2 → e < 2 → f < 2 → g < 2 → h < 2 → x ≡ a + 65536 * b + 4294967296 * c + 281474976710656 * d → y ≡ e + 65536 * f + 4294967296 * g + 281474976710656 * h
        → (x + 2 * y) * 281492157628480 % 2 ^ 64 / 2 ^ 48 ≡ ((d + 2 * h) * 4 + (c + 2 * g)) * 16 + ((b + 2 * f) * 4 + (a + 2 * e))
    sum x y a b c d e f g h la lb lc ld le lf lg lh ex ey = omega (arith, la, lb, lc, ld, le, lf, lg, lh, ex, ey)

-- the holder of a suit's highest card is the lowest digit of its owners' number
highest-told : (odd far : ℕ) (u : Suit) → highest_in odd far u ≡ places_of (lane odd u) (lane far u) all_ranks % 4
unfolding all_ranks lowest_ranks
highest-told odd far u = digit (bit_at (lane odd u) 14) (bit_at (lane far u) 14) _ (bit_at-lt (lane odd u) 14) (bit_at-lt (lane far u) 14)
  where
    digit : (a b n : ℕ) → a < 2 → b < 2 → a + 2 * b ≡ (a + 2 * b + 4 * n) % 4
    digit a b n la lb = omega (arith, la, lb)

-- .. in all four suits
pub highest-all : (odd far : ℕ) → (highest_in odd far Spades * 4 + highest_in odd far Hearts) * 16 + (highest_in odd far Diamonds * 4 + highest_in odd far Clubs)
    ≡ (places_of (lane odd Spades) (lane far Spades) all_ranks % 4 * 4 + places_of (lane odd Hearts) (lane far Hearts) all_ranks % 4) * 16
    + (places_of (lane odd Diamonds) (lane far Diamonds) all_ranks % 4 * 4 + places_of (lane odd Clubs) (lane far Clubs) all_ranks % 4)
highest-all odd far =
    ap₂ (λ m n. m * 16 + n) (ap₂ (λ m n. m * 4 + n) (highest-told odd far Spades) (highest-told odd far Hearts)) (ap₂ (λ m n. m * 4 + n) (highest-told odd far Diamonds) (highest-told odd far Clubs))
