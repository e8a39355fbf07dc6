-- no contract is worth nothing
use Rattle.std.proofs.Common.{◌≡◌, ℕ, zero, suc, ◌+◌, ◌-◌, ◌*◌, ◌<◌, ◌≤◌, nat_le, Bool, true, false, cond, List, sym, ap, ◌∙◌, inl, inr, pos, neg_ℤ, arith}
use Rattle.std.proofs.lemmas.Bool.Decides.{leb_tells}
use Rattle.std.proofs.lemmas.Int.{ints}
use Rattle.dd_cards.specs.declared.seat.Seat.{Seat}
use Rattle.dd_cards.specs.declared.side.Side.{Side}
use Rattle.dd_cards.specs.declared.side.Side.TheVariants.{NorthSouth, EastWest}
use Rattle.dd_cards.specs.declared.strain.Strain.{Strain}
use Rattle.dd_cards.specs.Sides.{side_of}
use Rattle.dd_score.specs.declared.doubling.Doubling.{Doubling}
use Rattle.dd_score.specs.declared.doubling.Doubling.TheVariants.{Undoubled, Doubled}
use Rattle.dd_score.specs.declared.vulnerable.Vulnerable.{Vulnerable}
use Rattle.dd_score.specs.Vulnerability.{is_vulnerable}
use Rattle.dd_score.specs.Tables.{tricks_of}
use Rattle.dd_score.specs.Bids.{level_of, strain_of}
use Rattle.dd_score.specs.Law77.{made_points, game_premium, penalty, trick_points, factor, overtrick_points, slam_premium, doubling_premium}
use Rattle.dd_score.specs.Worths.{as_north_souths, score_of, worth}
use Rattle.dd_score.proofs.PointLemmas.{points-made, points-failed}

-- a contract made has a premium
made-positive : (level : ℕ) (strain : Strain) (doubling : Doubling) (vulnerable : Bool) (over : ℕ) → 0 < made_points level strain doubling vulnerable over
unfolding made_points
made-positive level strain doubling vulnerable over =
    sums (factor doubling * trick_points strain level) (over * overtrick_points strain doubling vulnerable)
    (game_premium (factor doubling * trick_points strain level) vulnerable) (slam_premium level vulnerable) (doubling_premium doubling)
    (least (nat_le 100 (factor doubling * trick_points strain level)) vulnerable)
  where
    least : (b v : Bool) → 50 ≤ cond b (cond v 500 300) 50
    least true true = omega arith
    least true false = omega arith
    least false v = omega arith

    sums : (a b g s d : ℕ) → 50 ≤ g → 0 < a + b + g + s + d
    sums a b g s d h = omega arith

-- a doubled contract that fails costs something
penalty-positive : (vulnerable : Bool) (short : ℕ) → 0 < short → 0 < penalty Doubled vulnerable short
penalty-positive vulnerable zero h = absurd (omega arith)
penalty-positive true (suc more) h = omega arith
penalty-positive false (suc zero) h = omega arith
penalty-positive false (suc (suc zero)) h = omega arith
penalty-positive false (suc (suc (suc more))) h = omega arith

-- more than nothing, with either sign, for either side
not_zero : (side : Side) (n : ℕ) → 0 < n → as_north_souths side (pos n) ≡ pos 0 → ⊥
not_zero NorthSouth n h e = omega (arith, ints)
not_zero EastWest n h e = omega (arith, ints)

not_minus_zero : (side : Side) (n : ℕ) → 0 < n → as_north_souths side (neg_ℤ (pos n)) ≡ pos 0 → ⊥
not_minus_zero NorthSouth n h e = omega (arith, ints)
not_minus_zero EastWest n h e = omega (arith, ints)

-- no worth is 0
pub worth-nonzero : (table : List (List ℕ)) (vulnerable : Vulnerable) (k : ℕ) (s : Seat) → worth table vulnerable k s ≡ pos 0 → ⊥
unfolding worth score_of
worth-nonzero table vulnerable k s e = elim (leb_tells (level_of k + 6) (tricks_of table (strain_of k) s)) [
  | inl made ↦ not_zero (side_of s) _ (made-positive (level_of k) (strain_of k) Undoubled (is_vulnerable vulnerable (side_of s)) (tricks_of table (strain_of k) s - (level_of k + 6)))
      (sym (ap (as_north_souths (side_of s)) (points-made (level_of k) (strain_of k) Undoubled (is_vulnerable vulnerable (side_of s)) (tricks_of table (strain_of k) s) made.1)) ∙ (rw made.0 at e))
  | inr failed ↦ not_minus_zero (side_of s) _ (penalty-positive (is_vulnerable vulnerable (side_of s)) (level_of k + 6 - tricks_of table (strain_of k) s) (let l = failed.1 in omega arith))
      (sym (ap (as_north_souths (side_of s)) (points-failed (level_of k) (strain_of k) Doubled (is_vulnerable vulnerable (side_of s)) (tricks_of table (strain_of k) s) failed.1)) ∙ (rw failed.0 at e))
]
