-- sides and the seats that play for them
use Rattle.std.proofs.Common.{◌≡◌, true, false, refl}
use mathlib.Core.Bool.{not}
use Rattle.dd_cards.specs.declared.seat.Seat.{Seat}
use Rattle.dd_cards.specs.declared.seat.Seat.TheVariants.{North, East, South, West}
use Rattle.dd_cards.specs.declared.side.Side.{Side}
use Rattle.dd_cards.specs.declared.side.Side.TheVariants.{NorthSouth, EastWest}
use Rattle.dd_cards.specs.Seats.{next_seat}
use Rattle.dd_cards.specs.Sides.{side_of, other_side, same_side}

-- a side is itself
pub same-self : (a : Side) → same_side a a ≡ true
same-self NorthSouth = refl
same-self EastWest = refl

-- and not the other one
pub same-other : (a : Side) → same_side a (other_side a) ≡ false
same-other NorthSouth = refl
same-other EastWest = refl

-- a side is one of the two
pub same-not : (a b : Side) → same_side a (other_side b) ≡ not (same_side a b)
same-not NorthSouth NorthSouth = refl
same-not NorthSouth EastWest = refl
same-not EastWest NorthSouth = refl
same-not EastWest EastWest = refl

-- the opponents of one side are one side
pub same-others : (a b : Side) → same_side (other_side a) (other_side b) ≡ same_side a b
same-others NorthSouth NorthSouth = refl
same-others NorthSouth EastWest = refl
same-others EastWest NorthSouth = refl
same-others EastWest EastWest = refl

-- what the test says of one side
pub is-same : (a b : Side) → same_side a b ≡ true → a ≡ b
is-same NorthSouth NorthSouth h = refl
is-same EastWest EastWest h = refl
is-same NorthSouth EastWest h = absurd (cc)
is-same EastWest NorthSouth h = absurd (cc)

-- and of two
pub is-other : (a b : Side) → same_side a b ≡ false → other_side a ≡ b
is-other NorthSouth NorthSouth h = absurd (cc)
is-other EastWest EastWest h = absurd (cc)
is-other NorthSouth EastWest h = refl
is-other EastWest NorthSouth h = refl

-- the next seat plays for the other side
pub next-side : (x : Seat) → side_of (next_seat x) ≡ other_side (side_of x)
next-side North = refl
next-side East = refl
next-side South = refl
next-side West = refl
