-- how doubles change the points of a contract: up where it is made, down where it fails
use Rattle.std.proofs.Common.{ℕ, zero, suc, ◌+◌, ◌-◌, ◌*◌, ◌<◌, ◌≤◌, nat_le, Bool, true, false, cond, pos, neg_ℤ, ◌≤ℤ◌, arith, inl, inr}
use Rattle.std.proofs.Math.Nat.{mul-le-mul_left}
use Rattle.std.proofs.lemmas.Bool.Decides.{leb_tells}
use Rattle.std.proofs.lemmas.Int.{ints}
use Rattle.dd_cards.specs.declared.suit.Suit.TheVariants.{Spades, Hearts, Diamonds, Clubs}
use Rattle.dd_cards.specs.declared.strain.Strain.{Strain}
use Rattle.dd_cards.specs.declared.strain.Strain.TheVariants.{Trump, Notrump}
use Rattle.dd_score.specs.declared.doubling.Doubling.TheVariants.{Undoubled, Doubled, Redoubled}
use Rattle.dd_score.specs.Law77.{points, made_points, trick_points, overtrick_points, game_premium, slam_premium, penalty, doubled_penalty}
use Rattle.dd_score.proofs.PointLemmas.{points-made, points-failed}

-- more trick points, no smaller a premium
game_premium-rises : (m n : ℕ) (vulnerable : Bool) → m ≤ n → game_premium m vulnerable ≤ game_premium n vulnerable
game_premium-rises m n vulnerable h = elim (leb_tells 100 m) [
  | inl game ↦ elim (leb_tells 100 n) [
    | inl too ↦ rw (game.0, too.0) (omega arith)
    | inr less ↦ absurd (let g = game.1 in let l = less.1 in omega arith)
  ]
  | inr part ↦ rw part.0 (least (nat_le 100 n) vulnerable)
]
  where
    least : (b v : Bool) → 50 ≤ cond b (cond v 500 300) 50
    least true true = omega arith
    least true false = omega arith
    least false v = omega arith

-- a trick over counts more when doubled
overtrick-rises : (strain : Strain) (vulnerable : Bool) → overtrick_points strain Undoubled vulnerable ≤ overtrick_points strain Doubled vulnerable
overtrick-rises (Trump Spades) true = omega arith
overtrick-rises (Trump Spades) false = omega arith
overtrick-rises (Trump Hearts) true = omega arith
overtrick-rises (Trump Hearts) false = omega arith
overtrick-rises (Trump Diamonds) true = omega arith
overtrick-rises (Trump Diamonds) false = omega arith
overtrick-rises (Trump Clubs) true = omega arith
overtrick-rises (Trump Clubs) false = omega arith
overtrick-rises Notrump true = omega arith
overtrick-rises Notrump false = omega arith

-- a contract made is worth more when doubled
made-rises : (level : ℕ) (strain : Strain) (vulnerable : Bool) (over : ℕ)
    → made_points level strain Undoubled vulnerable over ≤ made_points level strain Doubled vulnerable over
unfolding made_points
made-rises level strain vulnerable over =
    sums (trick_points strain level) (over * overtrick_points strain Undoubled vulnerable) (over * overtrick_points strain Doubled vulnerable)
    (game_premium (1 * trick_points strain level) vulnerable) (game_premium (2 * trick_points strain level) vulnerable) (slam_premium level vulnerable)
    (mul-le-mul_left over (overtrick-rises strain vulnerable))
    (game_premium-rises (1 * trick_points strain level) (2 * trick_points strain level) vulnerable (omega arith))
  where
    sums : (t a b g h s : ℕ) → a ≤ b → g ≤ h → 1 * t + a + g + s + 0 ≤ 2 * t + b + h + s + 50
    sums t a b g h s e f = omega arith

-- a contract that fails costs more when doubled
penalty-rises : (vulnerable : Bool) (short : ℕ) → penalty Undoubled vulnerable short ≤ penalty Doubled vulnerable short
penalty-rises true zero = omega arith
penalty-rises false zero = omega arith
penalty-rises true (suc more) = omega arith
penalty-rises false (suc zero) = omega arith
penalty-rises false (suc (suc zero)) = omega arith
penalty-rises false (suc (suc (suc more))) = omega arith

-- of two numbers, as whole numbers
pos-le : (m n : ℕ) → m ≤ n → pos m ≤ℤ pos n
pos-le m n h = omega (arith, ints)

-- and with the signs turned
neg-le : (m n : ℕ) → m ≤ n → neg_ℤ (pos n) ≤ℤ neg_ℤ (pos m)
neg-le m n h = omega (arith, ints)

-- made: doubled no less than undoubled
pub made-doubled : (level : ℕ) (strain : Strain) (vulnerable : Bool) (tricks : ℕ) → level + 6 ≤ tricks
    → points level strain Undoubled vulnerable tricks ≤ℤ points level strain Doubled vulnerable tricks
made-doubled level strain vulnerable tricks h =
    rw (points-made level strain Undoubled vulnerable tricks h, points-made level strain Doubled vulnerable tricks h)
    (pos-le _ _ (made-rises level strain vulnerable (tricks - (level + 6))))

-- failed: undoubled no less than doubled
pub failed-undoubled : (level : ℕ) (strain : Strain) (vulnerable : Bool) (tricks : ℕ) → tricks < level + 6
    → points level strain Doubled vulnerable tricks ≤ℤ points level strain Undoubled vulnerable tricks
failed-undoubled level strain vulnerable tricks h =
    rw (points-failed level strain Undoubled vulnerable tricks h, points-failed level strain Doubled vulnerable tricks h)
    (neg-le _ _ (penalty-rises vulnerable (level + 6 - tricks)))

-- failed: doubled no less than redoubled
pub failed-redoubled : (level : ℕ) (strain : Strain) (vulnerable : Bool) (tricks : ℕ) → tricks < level + 6
    → points level strain Redoubled vulnerable tricks ≤ℤ points level strain Doubled vulnerable tricks
failed-redoubled level strain vulnerable tricks h =
    rw (points-failed level strain Redoubled vulnerable tricks h, points-failed level strain Doubled vulnerable tricks h)
    (neg-le _ _ (twice (doubled_penalty vulnerable (level + 6 - tricks))))
  where
    twice : (n : ℕ) → n ≤ 2 * n
    twice n = omega arith
