-- what both sides can make sure of comes about: so an auction has one value
use Rattle.std.proofs.Common.{◌≡◌, Bool, true, List, ℕ, ℤ}
use Rattle.std.specs.Prelude.{int_le}
use Rattle.std.proofs.lemmas.Int.{ints}
use Rattle.std.proofs.Common.{arith}
use Rattle.dd_cards.specs.declared.side.Side.TheVariants.{NorthSouth, EastWest}
use Rattle.dd_score.specs.declared.vulnerable.Vulnerable.{Vulnerable}
use Rattle.dd_score.specs.Auctions.{Auction}
use Rattle.dd_score.specs.Values.{CanReach, at_end, by_a_call, by_any_call, IsValue, final_score}

-- where each side can make sure of a test, some end passes both
meet : (t u : Auction → Bool) {a : Auction} → CanReach NorthSouth t a → CanReach EastWest u a → (b : Auction) × (t b ≡ true) × (u b ≡ true)
meet t u (at_end a over won) (at_end b end lost) = (a, won, lost)
meet t u (at_end a over won) (by_a_call b c on turn legal next) = absurd (cc)
meet t u (at_end a over won) (by_any_call b on turn next) = absurd (cc)
meet t u (by_a_call a c on turn legal next) (at_end b end lost) = absurd (cc)
meet t u (by_a_call a c on turn legal next) (by_a_call b d on' turn' legal' next') = absurd (cc)
meet t u (by_a_call a c on turn legal next) (by_any_call b on' turn' all) = meet t u next (all c legal)
meet t u (by_any_call a on turn all) (at_end b end lost) = absurd (cc)
meet t u (by_any_call a on turn all) (by_a_call b d on' turn' legal next) = meet t u (all d legal) next
meet t u (by_any_call a on turn all) (by_any_call b on' turn' all') = absurd (cc)

-- no value is above another
below : (table : List (List ℕ)) (vulnerable : Vulnerable) (a : Auction) (x y : ℤ) → IsValue table vulnerable a x → IsValue table vulnerable a y → int_le x y ≡ true
below table vulnerable a x y p q =
    let e : (b : Auction) × (int_le x (final_score table vulnerable b) ≡ true) × (int_le (final_score table vulnerable b) y ≡ true)
    = meet (λ b. int_le x (final_score table vulnerable b)) (λ b. int_le (final_score table vulnerable b) y) p.north_south q.east_west in
    through x (final_score table vulnerable e.0) y e.1 e.2
  where
    through : (l m n : ℤ) → int_le l m ≡ true → int_le m n ≡ true → int_le l n ≡ true
    through l m n h k = grind (arith, ints)

-- two values of an auction are one
pub one_value : (table : List (List ℕ)) (vulnerable : Vulnerable) (a : Auction) (x y : ℤ) → IsValue table vulnerable a x → IsValue table vulnerable a y → x ≡ y
one_value table vulnerable a x y p q = same x y (below table vulnerable a x y p q) (below table vulnerable a y x q p)
  where
    same : (l m : ℤ) → int_le l m ≡ true → int_le m l ≡ true → l ≡ m
    same l m h k = grind (arith, ints)
