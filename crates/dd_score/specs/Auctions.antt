-- To be believed: the auction (Laws of Duplicate Bridge 2017, Laws 17 to 22).
use Rattle.std.specs.Prelude.{◌≡◌, ℕ, ◌+◌, ◌<◌, ◌≤◌, ◌==◌, ◌&&◌, nat_le, Bool, if◌then◌else◌}
use Rattle.dd_cards.specs.declared.seat.Seat.{Seat}
use Rattle.dd_cards.specs.declared.side.Side.{Side}
use Rattle.dd_cards.specs.declared.strain.Strain.{Strain}
use Rattle.dd_cards.specs.Seats.{next_seat}
use Rattle.dd_cards.specs.Sides.{side_of, other_side, is_side}
use Rattle.dd_cards.specs.Strains.{strain_code}
use Rattle.dd_score.specs.declared.doubling.Doubling.{Doubling}
use Rattle.dd_score.specs.declared.doubling.Doubling.TheVariants.{Undoubled, Doubled, Redoubled}
use Rattle.dd_score.specs.Bids.{strain_of}

-- a call: a bid is told by its number
pub data Call : Type 0 where
  pass : Call
  bid : ℕ → Call
  double : Call
  redouble : Call

-- the calls so far: none yet, and this seat deals; or one more call
pub data Auction : Type 0 where
  opened_by : Seat → Auction
  called : Auction → Call → Auction

-- whose turn it is: the dealer's, then each seat's clockwise
abbrev pub caller : Auction → Seat
caller (opened_by dealer) = dealer
caller (called a c) = next_seat (caller a)

-- the number of the last bid, 0 where nothing was bid
abbrev pub last_bid : Auction → ℕ
last_bid (opened_by dealer) = 0
last_bid (called a pass) = last_bid a
last_bid (called a (bid k)) = k
last_bid (called a double) = last_bid a
last_bid (called a redouble) = last_bid a

-- who made the last bid, where there was one
abbrev pub bidder : Auction → Seat
bidder (opened_by dealer) = dealer
bidder (called a pass) = bidder a
bidder (called a (bid k)) = caller a
bidder (called a double) = bidder a
bidder (called a redouble) = bidder a

-- whether the last bid was doubled or redoubled
abbrev pub doubling : Auction → Doubling
doubling (opened_by dealer) = Undoubled
doubling (called a pass) = doubling a
doubling (called a (bid k)) = Undoubled
doubling (called a double) = Doubled
doubling (called a redouble) = Redoubled

-- the passes since the last other call
abbrev pub passes : Auction → ℕ
passes (opened_by dealer) = 0
passes (called a pass) = passes a + 1
passes (called a (bid k)) = 0
passes (called a double) = 0
passes (called a redouble) = 0

-- who of a side was the first to name a strain; `late` where none did
abbrev pub first_to_name : Auction → Side → Strain → Seat → Seat
first_to_name (opened_by dealer) side strain late = late
first_to_name (called a pass) side strain late = first_to_name a side strain late
first_to_name (called a (bid k)) side strain late =
    first_to_name a side strain (if is_side side (caller a) && (strain_code (strain_of k) == strain_code strain) then caller a else late)
first_to_name (called a double) side strain late = first_to_name a side strain late
first_to_name (called a redouble) side strain late = first_to_name a side strain late

-- who would play the last bid: of the bidder's side, the first who named its strain
abbrev pub declarer : Auction → Seat
declarer (opened_by dealer) = dealer
declarer (called a pass) = declarer a
declarer (called a (bid k)) = first_to_name a (side_of (caller a)) (strain_of k) (caller a)
declarer (called a double) = declarer a
declarer (called a redouble) = declarer a

-- four passes end an auction in which nothing was bid, three in a row any other
abbrev pub is_over : Auction → Bool
is_over a = nat_le (if last_bid a == 0 then 4 else 3) (passes a)

-- A pass is always legal; a bid where it is above the last one; a double where the other side's bid is undoubled; a redouble where
-- the own side's is doubled.
abbrev pub IsLegal : Auction → Call → Type 0
IsLegal a pass = Unit {0}
IsLegal a (bid k) = (last_bid a < k) × (k ≤ 35)
IsLegal a double = (0 < last_bid a) × (doubling a ≡ Undoubled) × (side_of (bidder a) ≡ other_side (side_of (caller a)))
IsLegal a redouble = (0 < last_bid a) × (doubling a ≡ Doubled) × (side_of (bidder a) ≡ side_of (caller a))
