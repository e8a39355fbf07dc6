-- To be believed: what an auction is worth when both sides see all results: the greatest score that North and South can make sure of.
use Rattle.std.specs.Prelude.{◌≡◌, ℕ, ◌==◌, Bool, true, false, if◌then◌else◌, List, ℤ, pos, int_le}
use Rattle.std.specs.Int.{int_max, int_min}
use Rattle.dd_cards.specs.declared.seat.Seat.{Seat}
use Rattle.dd_cards.specs.declared.seat.Seat.TheVariants.{North, East, South, West}
use Rattle.dd_cards.specs.declared.side.Side.{Side}
use Rattle.dd_cards.specs.declared.side.Side.TheVariants.{NorthSouth, EastWest}
use Rattle.dd_cards.specs.Sides.{side_of, other_side}
use Rattle.dd_score.specs.declared.order.Order.{Order}
use Rattle.dd_score.specs.declared.order.Order.TheVariants.{Dealer, First}
use Rattle.dd_score.specs.declared.vulnerable.Vulnerable.{Vulnerable}
use Rattle.dd_score.specs.Auctions.{Call, Auction, opened_by, called, caller, last_bid, declarer, doubling, is_over, IsLegal}
use Rattle.dd_score.specs.Worths.{score_of}

-- the score that an auction ends with: 0 where nothing was bid
abbrev pub final_score : List (List ℕ) → Vulnerable → Auction → ℤ
final_score table vulnerable a = (if last_bid a == 0 then pos 0 else score_of table vulnerable (last_bid a) (declarer a) (doubling a))

-- This side can make sure that the auction ends so that it passes the test: it has ended so; or the side is to call and has a legal
-- call after which it can; or the other side is to call and after each of its legal calls it can.
pub data CanReach (side : Side) (test : Auction → Bool) : Auction → Type 0 where
  at_end : (a : Auction) → is_over a ≡ true → test a ≡ true → CanReach side test a
  by_a_call : (a : Auction) (c : Call) → is_over a ≡ false → side_of (caller a) ≡ side → IsLegal a c
      → CanReach side test (called a c) → CanReach side test a
  by_any_call : (a : Auction) → is_over a ≡ false → side_of (caller a) ≡ other_side side
      → ((c : Call) → IsLegal a c → CanReach side test (called a c)) → CanReach side test a

-- is the score at least as good for the side as v?
abbrev pub is_as_good : Side → ℤ → ℤ → Bool
is_as_good NorthSouth v score = int_le v score
is_as_good EastWest v score = int_le score v

-- The value of an auction: what each side can make sure of, whatever the other one calls. So it is the score at its end, and
-- before that the greatest (North or South to call) or the least (East or West) over the legal calls.
pub record IsValue (table : List (List ℕ)) (vulnerable : Vulnerable) (a : Auction) (v : ℤ) : Type 0 where
  pub north_south : CanReach NorthSouth (λ b. is_as_good NorthSouth v (final_score table vulnerable b)) a
  pub east_west : CanReach EastWest (λ b. is_as_good EastWest v (final_score table vulnerable b)) a

-- of two scores the one that the side plays for
abbrev pub better : Side → ℤ → ℤ → ℤ
better NorthSouth = int_max
better EastWest = int_min

-- both values, with either of these two seats as the dealer, and of the two scores the better one for the side
abbrev pub IsBetterOf : List (List ℕ) → Vulnerable → Side → Seat → Seat → ℤ → Type 0
IsBetterOf table vulnerable side one other v =
    (x : ℤ) × (y : ℤ) × IsValue table vulnerable (opened_by one) x × IsValue table vulnerable (opened_by other) y × (v ≡ better side x y)

-- par: with a dealer the value of the auction before any call; with a side that is asked first the better for it of the
-- values with its two seats as dealer
abbrev pub IsPar : List (List ℕ) → Vulnerable → Order → ℤ → Type 0
IsPar table vulnerable (Dealer dealer) v = IsValue table vulnerable (opened_by dealer) v
IsPar table vulnerable (First NorthSouth) v = IsBetterOf table vulnerable NorthSouth North South v
IsPar table vulnerable (First EastWest) v = IsBetterOf table vulnerable EastWest East West v

-- an auction has no two values
abbrev pub HasOneValue : Type 0
HasOneValue = (table : List (List ℕ)) (vulnerable : Vulnerable) (a : Auction) (x y : ℤ) → IsValue table vulnerable a x → IsValue table vulnerable a y → x ≡ y
