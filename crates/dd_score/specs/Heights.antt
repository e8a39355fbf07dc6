-- How high a bid stands: one is made over another where it stands higher. And the highest bid that betters a side's contracts.
use Rattle.std.specs.Prelude.{ℕ, zero, suc, ◌+◌, ◌-◌, ◌*◌, ◌==◌, nat_lt, if◌then◌else◌, List, ℤ}
use Rattle.dd_cards.specs.declared.seat.Seat.{Seat}
use Rattle.dd_cards.specs.declared.side.Side.{Side}
use Rattle.dd_cards.specs.declared.suit.Suit.TheVariants.{Spades, Hearts, Diamonds, Clubs}
use Rattle.dd_cards.specs.declared.strain.Strain.TheVariants.{Trump, Notrump}
use Rattle.dd_cards.specs.Sides.{other_side}
use Rattle.dd_score.specs.declared.order.Order.{Order}
use Rattle.dd_score.specs.declared.vulnerable.Vulnerable.{Vulnerable}
use Rattle.dd_score.specs.Bids.{bid_of}
use Rattle.dd_score.specs.ParContracts.{place_in, one_of, partner_of}
use Rattle.dd_score.specs.Values.{is_as_good}
use Rattle.dd_score.specs.Worths.{worth}

-- by its number, and of one number by whose seat is asked earlier
abbrev pub height : Order → ℕ → Seat → ℕ
height order k s = 4 * k + (3 - place_in order s)

-- the height of an opponent's bid that is better than v for that side; 0 where it isn't
abbrev pub bettering_height : List (List ℕ) → Vulnerable → Order → ℤ → Side → ℕ → Seat → ℕ
bettering_height table vulnerable order v side k t = (if is_as_good side v (worth table vulnerable k t) then 0 else height order k t)

-- the higher of two
abbrev pub higher : ℕ → ℕ → ℕ
higher a b = (if nat_lt a b then b else a)

-- the higher of both opponents
unfoldable pub bettering_at : List (List ℕ) → Vulnerable → Order → ℤ → Side → ℕ → ℕ
bettering_at table vulnerable order v side k =
    higher (bettering_height table vulnerable order v side k (one_of (other_side side))) (bettering_height table vulnerable order v side k (partner_of (other_side side)))

-- the first of two that isn't 0
abbrev pub or_below : ℕ → ℕ → ℕ
or_below a b = (if a == 0 then b else a)

-- of the bids 1 to n the highest; 0 where none betters
unfoldable pub highest_bettering : List (List ℕ) → Vulnerable → Order → ℤ → Side → ℕ → ℕ
highest_bettering table vulnerable order v side zero = 0
highest_bettering table vulnerable order v side (suc n) =
    or_below (bettering_at table vulnerable order v side (suc n)) (highest_bettering table vulnerable order v side n)

-- of a level's bids the highest
unfoldable pub bettering_in_level : List (List ℕ) → Vulnerable → Order → ℤ → Side → ℕ → ℕ
bettering_in_level table vulnerable order v side level =
    or_below (bettering_at table vulnerable order v side (bid_of level Notrump))
    (or_below (bettering_at table vulnerable order v side (bid_of level (Trump Spades)))
    (or_below (bettering_at table vulnerable order v side (bid_of level (Trump Hearts)))
    (or_below (bettering_at table vulnerable order v side (bid_of level (Trump Diamonds)))
    (bettering_at table vulnerable order v side (bid_of level (Trump Clubs))))))
