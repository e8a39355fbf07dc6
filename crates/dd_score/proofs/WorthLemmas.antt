-- the worth of a contract, from what the calls of its body give
use Rattle.std.proofs.Common.{◌≡◌, ℕ, ◌+◌, ◌<◌, ◌≤◌, ◌⊎◌, inl, inr, Bool, true, false, List, refl, ◌∙◌, ℤ, pos, negsuc, neg_ℤ, ◌≤ℤ◌, ◌-ℤ◌, to_z, of_z, w16, FitsSigned, arith}
use Rattle.std.proofs.lemmas.Bool.{le-leb, lt-leb}
use Rattle.std.proofs.lemmas.Int.{ints}
use Rattle.dd_cards.specs.declared.seat.Seat.{Seat}
use Rattle.dd_cards.specs.declared.side.Side.{Side}
use Rattle.dd_cards.specs.declared.side.Side.TheVariants.{NorthSouth, EastWest}
use Rattle.dd_cards.specs.declared.strain.Strain.{Strain}
use Rattle.dd_cards.specs.Sides.{side_of, same_side}
use Rattle.dd_score.specs.declared.doubling.Doubling.{Doubling}
use Rattle.dd_score.specs.declared.doubling.Doubling.TheVariants.{Undoubled, Doubled}
use Rattle.dd_score.specs.declared.vulnerable.Vulnerable.{Vulnerable}
use Rattle.dd_score.specs.Vulnerability.{is_vulnerable}
use Rattle.dd_score.specs.Tables.{tricks_of}
use Rattle.dd_score.specs.Bids.{level_of, strain_of, bid_of}
use Rattle.dd_score.specs.PointRows.{doubled_if_failed}
use Rattle.dd_score.proofs.BidLemmas.{level-again, strain-of-bid}
use Rattle.dd_score.specs.Law77.{points}
use Rattle.dd_score.specs.Worths.{as_north_souths, score_of, worth}

-- undoubled where made, doubled where not
pub worth-from : (table : List (List ℕ)) (vulnerable : Vulnerable) (bid : ℕ) (declarer : Seat) (level tricks : ℕ) (strain : Strain)
    (doubling : Doubling) (is : Bool) (p : ℤ) → level ≡ level_of bid → strain ≡ strain_of bid → tricks ≡ tricks_of table strain declarer
    → (((level + 6 ≤ tricks) × (doubling ≡ Undoubled)) ⊎ ((tricks < level + 6) × (doubling ≡ Doubled)))
    → is ≡ is_vulnerable vulnerable (side_of declarer) → p ≡ points level strain doubling is tricks
    → as_north_souths (side_of declarer) p ≡ worth table vulnerable bid declarer
unfolding worth score_of
worth-from table vulnerable bid declarer level tricks strain doubling is p l s t (inl h) v e =
    rw (← l, ← s, ← t, ← v, le-leb (level + 6) tricks h.0, ← h.1, ← e) refl
worth-from table vulnerable bid declarer level tricks strain doubling is p l s t (inr h) v e =
    rw (← l, ← s, ← t, ← v, lt-leb (level + 6) tricks h.0, ← h.1, ← e) refl

-- the same of a level's bid
pub worth-by_level : (table : List (List ℕ)) (vulnerable : Vulnerable) (level : ℕ) (strain : Strain) (declarer : Seat) (p : ℤ) → 1 ≤ level
    → p ≡ points level strain (doubled_if_failed level (tricks_of table strain declarer)) (is_vulnerable vulnerable (side_of declarer)) (tricks_of table strain declarer)
    → as_north_souths (side_of declarer) p ≡ worth table vulnerable (bid_of level strain) declarer
unfolding worth score_of
worth-by_level table vulnerable level strain declarer p some e = rw (level-again level strain some, strain-of-bid level strain, ← e) refl

-- North and South's points stand as they are
pub theirs : (side : Side) (p w : ℤ) → same_side side NorthSouth ≡ true → negsuc 7999 ≤ℤ p → p ≤ℤ pos 8000 → as_north_souths side p ≡ w
    → to_z w16 (of_z w16 p) ≡ w
theirs NorthSouth p w s low high e = let kept : to_z w16 (of_z w16 p) ≡ p = omega (arith, ints) in kept ∙ e
theirs EastWest p w s low high e = absurd (cc)

-- East and West's with the sign turned
pub others : (side : Side) (p w : ℤ) → same_side side NorthSouth ≡ false → negsuc 7999 ≤ℤ p → p ≤ℤ pos 8000 → as_north_souths side p ≡ w
    → to_z w16 (of_z w16 (pos 0 -ℤ to_z w16 (of_z w16 p))) ≡ w
others NorthSouth p w s low high e = absurd (cc)
others EastWest p w s low high e = let kept : to_z w16 (of_z w16 (pos 0 -ℤ to_z w16 (of_z w16 p))) ≡ neg_ℤ p = omega (arith, ints) in kept ∙ e

-- and they fit
pub fits_turned : (p : ℤ) → negsuc 7999 ≤ℤ p → p ≤ℤ pos 8000 → FitsSigned w16 (pos 0 -ℤ to_z w16 (of_z w16 p))
fits_turned p low high = omega (arith, ints)
