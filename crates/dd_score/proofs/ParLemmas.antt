-- what stands when all bids were offered to all seats is par
use Rattle.std.proofs.Common.{◌≡◌, ℕ, zero, suc, ◌+◌, ◌-◌, ◌*◌, ◌<◌, ◌≤◌, nat_le, Bool, true, false, cond, List, [], ◌∷◌, refl, sym, ap, ap₂, subst, ◌∙◌, inl, inr, ℤ, pos, arith}
use Rattle.std.specs.Prelude.{◌||◌, ◌&&◌, int_le}
use Rattle.std.proofs.lemmas.Bool.{leb-false}
use Rattle.std.proofs.lemmas.Bool.Decides.{eqb_tells, leb_tells}
use Rattle.std.proofs.lemmas.Int.{ints}
use Rattle.dd_cards.specs.declared.seat.Seat.{Seat}
use Rattle.dd_cards.specs.declared.seat.Seat.TheVariants.{North, East, South, West}
use Rattle.dd_cards.specs.declared.side.Side.{Side}
use Rattle.dd_cards.specs.declared.side.Side.TheVariants.{NorthSouth, EastWest}
use Rattle.dd_cards.specs.declared.strain.Strain.{Strain}
use Rattle.dd_cards.specs.Sides.{side_of, other_side, same_side}
use Rattle.dd_score.specs.declared.doubling.Doubling.{Doubling}
use Rattle.dd_score.specs.declared.doubling.Doubling.TheVariants.{Undoubled, Doubled, Redoubled}
use Rattle.dd_score.specs.declared.order.Order.{Order}
use Rattle.dd_score.specs.declared.order.Order.TheVariants.{Dealer, First}
use Rattle.dd_score.specs.declared.vulnerable.Vulnerable.{Vulnerable}
use Rattle.dd_score.specs.Vulnerability.{is_vulnerable}
use Rattle.dd_score.specs.Tables.{tricks_of}
use Rattle.dd_score.specs.Bids.{level_of, strain_of}
use Rattle.dd_score.specs.Law77.{points}
use Rattle.dd_score.specs.Orders.{asked}
use Rattle.dd_score.specs.Auctions.{Auction, opened_by, last_bid, declarer, doubling}
use Rattle.dd_score.specs.Values.{CanReach, IsValue, IsPar, is_as_good, final_score, better}
use Rattle.dd_score.specs.Worths.{as_north_souths, makes, score_of, worth}
use Rattle.dd_score.specs.Stands.{offered, stands}
use Rattle.dd_score.specs.Levels.{level_offered}
use Rattle.dd_score.proofs.PointOrder.{made-doubled, failed-undoubled, failed-redoubled}
use Rattle.dd_score.proofs.ScoreTests.{better-test, as-good-self, own-good, other-good}
use Rattle.dd_score.proofs.Strategies.{calls_left, reach}
use Rattle.dd_score.proofs.SafeCalls.{IsSafe, waits, unbid, Tests, kept_safe}
use Rattle.dd_score.proofs.Chosen.{chosen_by, round_of, walk_of, Aim, nothing, bidding, walk-aim}

-- ---- the score that an auction ends with
-- nothing was bid
final-none : (table : List (List ℕ)) (vulnerable : Vulnerable) (a : Auction) → last_bid a ≡ 0 → final_score table vulnerable a ≡ pos 0
final-none table vulnerable a h = rw h refl

-- something was
final-bid : (table : List (List ℕ)) (vulnerable : Vulnerable) (a : Auction) → 0 < last_bid a
    → final_score table vulnerable a ≡ score_of table vulnerable (last_bid a) (declarer a) (doubling a)
final-bid table vulnerable a h = elim (eqb_tells (last_bid a) 0) [
  | inl none ↦ absurd (let n = none.1 in omega arith)
  | inr some ↦ rw some.0 refl
]

-- the own side's contract, doubled or not, is as good as what it is worth
own-plain : (side : Side) (v : ℤ) (level : ℕ) (strain : Strain) (is : Bool) (tricks : ℕ) (d : Doubling) → (d ≡ Redoubled → ⊥)
    → is_as_good side v (as_north_souths side (points level strain (cond (nat_le (level + 6) tricks) Undoubled Doubled) is tricks)) ≡ true
    → is_as_good side v (as_north_souths side (points level strain d is tricks)) ≡ true
own-plain side v level strain is tricks d mild h = elim (leb_tells (level + 6) tricks) [
  | inl made ↦ whole (made.1) d mild (rw made.0 at h)
  | inr failed ↦ short (failed.1) d mild (rw failed.0 at h)
]
  where
    whole : level + 6 ≤ tricks → (e : Doubling) → (e ≡ Redoubled → ⊥) → is_as_good side v (as_north_souths side (points level strain Undoubled is tricks)) ≡ true
        → is_as_good side v (as_north_souths side (points level strain e is tricks)) ≡ true
    whole m Undoubled n g = g
    whole m Doubled n g = own-good side v _ _ (made-doubled level strain is tricks m) g
    whole m Redoubled n g = absurd (n refl)

    short : tricks < level + 6 → (e : Doubling) → (e ≡ Redoubled → ⊥) → is_as_good side v (as_north_souths side (points level strain Doubled is tricks)) ≡ true
        → is_as_good side v (as_north_souths side (points level strain e is tricks)) ≡ true
    short m Undoubled n g = own-good side v _ _ (failed-undoubled level strain is tricks m) g
    short m Doubled n g = g
    short m Redoubled n g = absurd (n refl)

-- the other side's contract that fails and is doubled or redoubled is as good for this side as what it is worth
other-plain : (side : Side) (v : ℤ) (level : ℕ) (strain : Strain) (is : Bool) (tricks : ℕ) (d : Doubling) → tricks < level + 6 → (d ≡ Undoubled → ⊥)
    → is_as_good side v (as_north_souths (other_side side) (points level strain Doubled is tricks)) ≡ true
    → is_as_good side v (as_north_souths (other_side side) (points level strain d is tricks)) ≡ true
other-plain side v level strain is tricks Undoubled short n g = absurd (n refl)
other-plain side v level strain is tricks Doubled short n g = g
other-plain side v level strain is tricks Redoubled short n g = other-good side v _ _ (failed-redoubled level strain is tricks short) g

module _ (table : List (List ℕ)) (vulnerable : Vulnerable) (side : Side) (v : ℤ) where
  -- the same of a bid
  own-score : (k : ℕ) (s : Seat) (d : Doubling) → side_of s ≡ side → (d ≡ Redoubled → ⊥)
      → is_as_good side v (worth table vulnerable k s) ≡ true → is_as_good side v (score_of table vulnerable k s d) ≡ true
  unfolding worth score_of
  own-score k s d e mild h =
      let p : Doubling → ℤ = λ x. points (level_of k) (strain_of k) x (is_vulnerable vulnerable (side_of s)) (tricks_of table (strain_of k) s) in
      ap (λ t. is_as_good side v (as_north_souths t (p d))) e
      ∙ own-plain side v (level_of k) (strain_of k) (is_vulnerable vulnerable (side_of s)) (tricks_of table (strain_of k) s) d mild
      (sym (ap (λ t. is_as_good side v (as_north_souths t (p (cond (makes table k s) Undoubled Doubled)))) e) ∙ h)

  made-score : (k : ℕ) (s : Seat) (d : Doubling) → d ≡ Undoubled → makes table k s ≡ true
      → is_as_good side v (worth table vulnerable k s) ≡ true → is_as_good side v (score_of table vulnerable k s d) ≡ true
  unfolding worth
  made-score k s d u m h = ap (λ x. is_as_good side v (score_of table vulnerable k s x)) (u ∙ sym (ap (λ b. cond b Undoubled Doubled) m)) ∙ h

  failed-score : (k : ℕ) (s : Seat) (d : Doubling) → side_of s ≡ other_side side → (d ≡ Undoubled → ⊥) → makes table k s ≡ false
      → is_as_good side v (worth table vulnerable k s) ≡ true → is_as_good side v (score_of table vulnerable k s d) ≡ true
  unfolding worth score_of
  failed-score k s d e n m h =
      let p : Doubling → ℤ = λ x. points (level_of k) (strain_of k) x (is_vulnerable vulnerable (side_of s)) (tricks_of table (strain_of k) s) in
      ap (λ t. is_as_good side v (as_north_souths t (p d))) e
      ∙ other-plain side v (level_of k) (strain_of k) (is_vulnerable vulnerable (side_of s)) (tricks_of table (strain_of k) s) d
      (leb-false (level_of k + 6) (tricks_of table (strain_of k) s) m) n
      (sym (ap₂ (λ t b. is_as_good side v (as_north_souths t (p (cond b Undoubled Doubled)))) e m) ∙ h)

  -- so an auction's end passes the test where its contract's worth does
  tests : Tests (is_as_good side v (pos 0)) (λ k s. is_as_good side v (worth table vulnerable k s)) (makes table) side
      (λ a. is_as_good side v (final_score table vulnerable a))
  tests = record {
    unbid = λ a none h. ap (is_as_good side v) (final-none table vulnerable a none) ∙ h;
    own = λ a some e mild h. ap (is_as_good side v) (final-bid table vulnerable a some) ∙ own-score (last_bid a) (declarer a) (doubling a) e mild h;
    made = λ a some u m h. ap (is_as_good side v) (final-bid table vulnerable a some) ∙ made-score (last_bid a) (declarer a) (doubling a) u m h;
    failed = λ a some e n m h. ap (is_as_good side v) (final-bid table vulnerable a some) ∙ failed-score (last_bid a) (declarer a) (doubling a) e n m h;
  }

  -- ---- from an aim to a safe state
  aim-safe : (dealer : Seat) → Aim side (is_as_good side v (pos 0)) (λ k s. is_as_good side v (worth table vulnerable k s)) dealer 35
      → IsSafe side (is_as_good side v (pos 0)) (λ k s. is_as_good side v (worth table vulnerable k s)) (makes table) (opened_by dealer)
  aim-safe dealer (nothing passed all) = unbid (record { nothing = refl; undoubled = refl; here = passed; above = all })
  aim-safe dealer (bidding m i some most place own fine above before) =
      waits dealer m i (record { some = some; most = most; place = place; own = own; here = fine; above = above; before = before })
      (record {
        early = omega arith;
        turn = refl;
        low = some;
        undoubled = refl;
        others = λ h. absurd (omega arith);
        quiet = λ strain late. refl;
        kept = λ strain late h. h;
        few = omega arith;
        fewer = λ h. absurd (omega arith);
      })

  -- the side can make sure of what passes the walk
  walk-reach : (dealer : Seat) → walk_of side (is_as_good side v (pos 0)) (λ k s. is_as_good side v (worth table vulnerable k s)) dealer 35 ≡ true
      → CanReach side (λ a. is_as_good side v (final_score table vulnerable a)) (opened_by dealer)
  walk-reach dealer h =
      reach side (λ a. is_as_good side v (final_score table vulnerable a)) _ (kept_safe side _ _ (makes table) _ tests) (suc (calls_left (opened_by dealer)))
      (opened_by dealer) (omega arith) (aim-safe dealer (walk-aim side _ _ dealer 35 h))

  -- ---- what stands passes the test as the walk does
  tested : ℕ → List Seat → Bool → Bool
  tested k [] before = before
  tested k (s ∷ seats) before = chosen_by (same_side (side_of s) side) (is_as_good side v (worth table vulnerable k s)) (tested k seats before)

  offered-test : (k : ℕ) (seats : List Seat) (x : ℤ) → is_as_good side v (offered table vulnerable k seats x) ≡ tested k seats (is_as_good side v x)
  unfolding tested
  offered-test k [] x = refl
  offered-test k (s ∷ seats) x =
      better-test side (side_of s) v (worth table vulnerable k s) (offered table vulnerable k seats x)
      ∙ ap (chosen_by (same_side (side_of s) side) (is_as_good side v (worth table vulnerable k s))) (offered-test k seats x)

  stands-test : (order : Order) (n : ℕ) → is_as_good side v (stands table vulnerable order (suc n))
      ≡ tested (suc n) (asked order) (is_as_good side v (stands table vulnerable order n))
  unfolding stands
  stands-test order n = offered-test (suc n) (asked order) (stands table vulnerable order n)

  walk-stands : (dealer : Seat) (n : ℕ) → is_as_good side v (stands table vulnerable (Dealer dealer) n)
      ≡ walk_of side (is_as_good side v (pos 0)) (λ k s. is_as_good side v (worth table vulnerable k s)) dealer n
  unfolding stands tested
  walk-stands dealer zero = refl
  walk-stands dealer (suc n) = stands-test (Dealer dealer) n ∙ ap (λ b. round_of side (λ k s. is_as_good side v (worth table vulnerable k s)) dealer (suc n) 4 0 b) (walk-stands dealer n)

-- with a dealer: what stands is the value of the auction
pub dealer-value : (table : List (List ℕ)) (vulnerable : Vulnerable) (dealer : Seat)
    → IsValue table vulnerable (opened_by dealer) (stands table vulnerable (Dealer dealer) 35)
dealer-value table vulnerable dealer = record {
  north_south = walk-reach table vulnerable NorthSouth _ dealer (sym (walk-stands table vulnerable NorthSouth _ dealer 35) ∙ as-good-self NorthSouth (stands table vulnerable (Dealer dealer) 35));
  east_west = walk-reach table vulnerable EastWest _ dealer (sym (walk-stands table vulnerable EastWest _ dealer 35) ∙ as-good-self EastWest (stands table vulnerable (Dealer dealer) 35));
}

-- ---- by sides
-- two numbers that pass the same tests are one number
same-number : (a b : ℤ) → ((t : ℤ) → int_le t a ≡ int_le t b) → a ≡ b
same-number a b e =
    let up : int_le a b ≡ true = sym (e a) ∙ as-good-self NorthSouth a in
    let down : int_le b a ≡ true = e b ∙ as-good-self NorthSouth b in
    both a b up down
  where
    both : (x y : ℤ) → int_le x y ≡ true → int_le y x ≡ true → x ≡ y
    both x y up down = grind (arith, ints)

same-number-below : (a b : ℤ) → ((t : ℤ) → int_le a t ≡ int_le b t) → a ≡ b
same-number-below a b e =
    let up : int_le a b ≡ true = e b ∙ as-good-self EastWest b in
    let down : int_le b a ≡ true = sym (e a) ∙ as-good-self EastWest a in
    both a b up down
  where
    both : (x y : ℤ) → int_le x y ≡ true → int_le y x ≡ true → x ≡ y
    both x y up down = grind (arith, ints)

-- A bid offered with a side asked first does for the side what it does with one or the other of its seats as dealer: p and q tell
-- whether the bid is good for the side from its seats, r and s from the other side's.
either-first : (p q r s x y : Bool) → (p || (q || (r && (s && (x || y))))) ≡ ((p || (r && (q || (s && x)))) || (q || (s && (p || (r && y)))))
either-first true q r s x y = refl
either-first false true true s x y = refl
either-first false true false s x y = refl
either-first false false true true x y = refl
either-first false false true false x y = refl
either-first false false false true x y = refl
either-first false false false false x y = refl

-- a test or itself
twice : (b : Bool) → b ≡ (b || b)
twice true = refl
twice false = refl

-- one bid in that order
north_south-first-round : (table : List (List ℕ)) (vulnerable : Vulnerable) (v : ℤ) (k : ℕ) (x y : Bool)
    → tested table vulnerable NorthSouth v k (asked (First NorthSouth)) (x || y)
    ≡ (tested table vulnerable NorthSouth v k (asked (Dealer North)) x || tested table vulnerable NorthSouth v k (asked (Dealer South)) y)
unfolding tested
north_south-first-round table vulnerable v k x y =
    either-first (is_as_good NorthSouth v (worth table vulnerable k North)) (is_as_good NorthSouth v (worth table vulnerable k South))
    (is_as_good NorthSouth v (worth table vulnerable k East)) (is_as_good NorthSouth v (worth table vulnerable k West)) x y

-- what stands with North and South asked first
north_south-first : (table : List (List ℕ)) (vulnerable : Vulnerable) (v : ℤ) (n : ℕ) → is_as_good NorthSouth v (stands table vulnerable (First NorthSouth) n)
    ≡ (is_as_good NorthSouth v (stands table vulnerable (Dealer North) n) || is_as_good NorthSouth v (stands table vulnerable (Dealer South) n))
unfolding stands
north_south-first table vulnerable v zero = twice (is_as_good NorthSouth v (pos 0))
north_south-first table vulnerable v (suc n) =
    stands-test table vulnerable NorthSouth v (First NorthSouth) n
    ∙ ap (tested table vulnerable NorthSouth v (suc n) (asked (First NorthSouth))) (north_south-first table vulnerable v n)
    ∙ north_south-first-round table vulnerable v (suc n) (is_as_good NorthSouth v (stands table vulnerable (Dealer North) n)) (is_as_good NorthSouth v (stands table vulnerable (Dealer South) n))
    ∙ sym (ap₂ (λ x y. x || y) (stands-test table vulnerable NorthSouth v (Dealer North) n) (stands-test table vulnerable NorthSouth v (Dealer South) n))

-- one bid in that order
east_west-first-round : (table : List (List ℕ)) (vulnerable : Vulnerable) (v : ℤ) (k : ℕ) (x y : Bool)
    → tested table vulnerable EastWest v k (asked (First EastWest)) (x || y)
    ≡ (tested table vulnerable EastWest v k (asked (Dealer East)) x || tested table vulnerable EastWest v k (asked (Dealer West)) y)
unfolding tested
east_west-first-round table vulnerable v k x y =
    either-first (is_as_good EastWest v (worth table vulnerable k East)) (is_as_good EastWest v (worth table vulnerable k West))
    (is_as_good EastWest v (worth table vulnerable k South)) (is_as_good EastWest v (worth table vulnerable k North)) x y

-- what stands with East and West asked first
east_west-first : (table : List (List ℕ)) (vulnerable : Vulnerable) (v : ℤ) (n : ℕ) → is_as_good EastWest v (stands table vulnerable (First EastWest) n)
    ≡ (is_as_good EastWest v (stands table vulnerable (Dealer East) n) || is_as_good EastWest v (stands table vulnerable (Dealer West) n))
unfolding stands
east_west-first table vulnerable v zero = twice (is_as_good EastWest v (pos 0))
east_west-first table vulnerable v (suc n) =
    stands-test table vulnerable EastWest v (First EastWest) n
    ∙ ap (tested table vulnerable EastWest v (suc n) (asked (First EastWest))) (east_west-first table vulnerable v n)
    ∙ east_west-first-round table vulnerable v (suc n) (is_as_good EastWest v (stands table vulnerable (Dealer East) n)) (is_as_good EastWest v (stands table vulnerable (Dealer West) n))
    ∙ sym (ap₂ (λ x y. x || y) (stands-test table vulnerable EastWest v (Dealer East) n) (stands-test table vulnerable EastWest v (Dealer West) n))

-- with a side asked first the better of the two for it stands
first-better : (table : List (List ℕ)) (vulnerable : Vulnerable) → stands table vulnerable (First NorthSouth) 35
    ≡ better NorthSouth (stands table vulnerable (Dealer North) 35) (stands table vulnerable (Dealer South) 35)
first-better table vulnerable = same-number _ _ (λ t. north_south-first table vulnerable t 35 ∙ sym (better-test NorthSouth NorthSouth t _ _))

second-better : (table : List (List ℕ)) (vulnerable : Vulnerable) → stands table vulnerable (First EastWest) 35
    ≡ better EastWest (stands table vulnerable (Dealer East) 35) (stands table vulnerable (Dealer West) 35)
second-better table vulnerable = same-number-below _ _ (λ t. east_west-first table vulnerable t 35 ∙ sym (better-test EastWest EastWest t _ _))

-- par is what stands
pub par-stands : (table : List (List ℕ)) (vulnerable : Vulnerable) (order : Order) (r : ℤ) → r ≡ stands table vulnerable order 35
    → IsPar table vulnerable order r
par-stands table vulnerable (Dealer dealer) r e = subst (IsValue table vulnerable (opened_by dealer)) (sym e) (dealer-value table vulnerable dealer)
par-stands table vulnerable (First NorthSouth) r e = (
  stands table vulnerable (Dealer North) 35,
  stands table vulnerable (Dealer South) 35,
  dealer-value table vulnerable North,
  dealer-value table vulnerable South,
  e ∙ first-better table vulnerable,
)
par-stands table vulnerable (First EastWest) r e = (
  stands table vulnerable (Dealer East) 35,
  stands table vulnerable (Dealer West) 35,
  dealer-value table vulnerable East,
  dealer-value table vulnerable West,
  e ∙ second-better table vulnerable,
)

-- ---- for the loop over the bids
-- none offered
pub none-stands : (table : List (List ℕ)) (vulnerable : Vulnerable) (order : Order) → pos 0 ≡ stands table vulnerable order 0
unfolding stands
none-stands table vulnerable order = refl

-- five bids more
pub more-stands : (table : List (List ℕ)) (vulnerable : Vulnerable) (order : Order) (level : ℕ) (seats : List Seat) (score r : ℤ) → 1 ≤ level
    → asked order ≡ seats → score ≡ stands table vulnerable order (5 * (level - 1)) → r ≡ level_offered table vulnerable level seats score
    → r ≡ stands table vulnerable order (5 * (level + 1 - 1))
unfolding stands level_offered
more-stands table vulnerable order zero seats score r some all before e = absurd (omega arith)
more-stands table vulnerable order (suc n) seats score r some all before e =
    let at : 5 * (suc n - 1) ≡ 5 * n = omega arith in
    let clubs : 5 * (suc n - 1) + 0 + 1 ≡ suc (5 * n) = omega arith in
    let diamonds : 5 * (suc n - 1) + 1 + 1 ≡ suc (suc (5 * n)) = omega arith in
    let hearts : 5 * (suc n - 1) + 2 + 1 ≡ suc (suc (suc (5 * n))) = omega arith in
    let spades : 5 * (suc n - 1) + 3 + 1 ≡ suc (suc (suc (suc (5 * n)))) = omega arith in
    let notrump : 5 * (suc n - 1) + 4 + 1 ≡ suc (suc (suc (suc (suc (5 * n))))) = omega arith in
    let next : 5 * (suc n + 1 - 1) ≡ suc (suc (suc (suc (suc (5 * n))))) = omega arith in
    e ∙ ap (λ l. level_offered table vulnerable (suc n) l score) (sym all)
    ∙ ap (level_offered table vulnerable (suc n) (asked order)) (before ∙ ap (stands table vulnerable order) at)
    ∙ five clubs diamonds hearts spades notrump
    ∙ sym (ap (stands table vulnerable order) next)
  where
    five : {a b c d f : ℕ} → a ≡ suc (5 * n) → b ≡ suc (suc (5 * n)) → c ≡ suc (suc (suc (5 * n))) → d ≡ suc (suc (suc (suc (5 * n)))) → f ≡ suc (suc (suc (suc (suc (5 * n)))))
        → offered table vulnerable f (asked order) (offered table vulnerable d (asked order) (offered table vulnerable c (asked order) (offered table vulnerable b (asked order) (offered table vulnerable a (asked order) (stands table vulnerable order (5 * n))))))
        ≡ stands table vulnerable order (suc (suc (suc (suc (suc (5 * n))))))
    five p q r s t = rw (p, q, r, s, t) refl

-- all results have a par
pub some-par : (table : List (List ℕ)) (vulnerable : Vulnerable) (order : Order) → (v : ℤ) × IsPar table vulnerable order v
some-par table vulnerable order = (stands table vulnerable order 35, par-stands table vulnerable order (stands table vulnerable order 35) refl)
