-- the points of a contract, made or not
use Rattle.std.proofs.Common.{◌≡◌, ℕ, ◌+◌, ◌-◌, ◌<◌, ◌≤◌, Bool, refl, pos, negsuc, neg_ℤ, ◌-ℤ◌, ◌≤ℤ◌, to_z, of_z, w16, arith}
use Rattle.std.proofs.lemmas.Bool.{le-leb, lt-leb}
use Rattle.std.proofs.lemmas.Int.{ints}
use Rattle.dd_cards.specs.declared.strain.Strain.{Strain}
use Rattle.dd_score.specs.declared.doubling.Doubling.{Doubling}
use Rattle.dd_score.specs.Law77.{points, made_points, penalty}

-- a contract that is made
pub points-made : (level : ℕ) (strain : Strain) (doubling : Doubling) (vulnerable : Bool) (tricks : ℕ) → level + 6 ≤ tricks
    → points level strain doubling vulnerable tricks ≡ pos (made_points level strain doubling vulnerable (tricks - (level + 6)))
unfolding points
points-made level strain doubling vulnerable tricks h = rw (le-leb (level + 6) tricks h) refl

-- a contract that fails
pub points-failed : (level : ℕ) (strain : Strain) (doubling : Doubling) (vulnerable : Bool) (tricks : ℕ) → tricks < level + 6
    → points level strain doubling vulnerable tricks ≡ neg_ℤ (pos (penalty doubling vulnerable (level + 6 - tricks)))
unfolding points
points-failed level strain doubling vulnerable tricks h = rw (lt-leb (level + 6) tricks h) refl

-- sixteen bits hold a number of points
pub held : (n : ℕ) → n < 8000 → to_z w16 n ≡ pos n
held n h = omega (arith, ints)

-- and its negative
pub held_turned : (n : ℕ) → n < 8000 → to_z w16 (of_z w16 (pos 0 -ℤ to_z w16 n)) ≡ neg_ℤ (pos n)
held_turned n h = omega (arith, ints)

-- within bounds
pub bounds : (n : ℕ) → n < 8000 → (negsuc 7999 ≤ℤ to_z w16 n) × (to_z w16 n ≤ℤ pos 8000)
bounds n h = (omega (arith, ints), omega (arith, ints))
