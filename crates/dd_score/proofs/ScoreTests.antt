-- what a score is to a side, as a test, and how the test goes along with what an auction ends with
use Rattle.std.proofs.Common.{◌≡◌, true, ℤ, ◌≤ℤ◌, arith}
use Rattle.std.specs.Prelude.{int_le, ◌||◌, ◌&&◌}
use Rattle.std.specs.Int.{int_max, int_min}
use Rattle.std.proofs.lemmas.Int.{ints}
use Rattle.dd_cards.specs.declared.side.Side.{Side}
use Rattle.dd_cards.specs.declared.side.Side.TheVariants.{NorthSouth, EastWest}
use Rattle.dd_cards.specs.Sides.{other_side, same_side}
use Rattle.dd_score.specs.Values.{is_as_good, better}
use Rattle.dd_score.specs.Worths.{as_north_souths}
use Rattle.dd_score.proofs.Chosen.{chosen_by}

-- at least as much as the greater: as one of the two
above-max : (v x y : ℤ) → int_le v (int_max x y) ≡ (int_le v x || int_le v y)
above-max v x y = grind (arith, ints)

-- at least as much as the smaller: as both
above-min : (v x y : ℤ) → int_le v (int_min x y) ≡ (int_le v x && int_le v y)
above-min v x y = grind (arith, ints)

-- at most the smaller
below-min : (v x y : ℤ) → int_le (int_min x y) v ≡ (int_le x v || int_le y v)
below-min v x y = grind (arith, ints)

-- at most the greater
below-max : (v x y : ℤ) → int_le (int_max x y) v ≡ (int_le x v && int_le y v)
below-max v x y = grind (arith, ints)

-- what a seat leaves is good for a side as its own bid and what stood before are
pub better-test : (side own : Side) (v x y : ℤ) → is_as_good side v (better own x y)
    ≡ chosen_by (same_side own side) (is_as_good side v x) (is_as_good side v y)
better-test NorthSouth NorthSouth v x y = above-max v x y
better-test NorthSouth EastWest v x y = above-min v x y
better-test EastWest NorthSouth v x y = below-max v x y
better-test EastWest EastWest v x y = below-min v x y

-- a number is as good as itself
pub as-good-self : (side : Side) (v : ℤ) → is_as_good side v v ≡ true
as-good-self NorthSouth v = grind (arith, ints)
as-good-self EastWest v = grind (arith, ints)

-- more points for its own side are as good
pub own-good : (side : Side) (v p q : ℤ) → p ≤ℤ q → is_as_good side v (as_north_souths side p) ≡ true → is_as_good side v (as_north_souths side q) ≡ true
own-good NorthSouth v p q h e = grind (arith, ints)
own-good EastWest v p q h e = grind (arith, ints)

-- and less for the other side
pub other-good : (side : Side) (v p q : ℤ) → q ≤ℤ p → is_as_good side v (as_north_souths (other_side side) p) ≡ true
    → is_as_good side v (as_north_souths (other_side side) q) ≡ true
other-good NorthSouth v p q h e = grind (arith, ints)
other-good EastWest v p q h e = grind (arith, ints)
