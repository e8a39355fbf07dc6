-- seats counted from the leader
use Rattle.std.proofs.Common.{◌≡◌, ℕ, zero, suc, ◌<◌, refl, sym, ap, ◌∙◌, arith}
use Rattle.dd_cards.specs.declared.seat.Seat.{Seat}
use Rattle.dd_cards.specs.declared.seat.Seat.TheVariants.{North, East, South, West}
use Rattle.dd_cards.specs.Seats.{seat_after, next_seat}
use Rattle.dd_rank.specs.Strings.{places_after}

-- there are four places
pub places-lt : (f x : Seat) → places_after f x < 4
places-lt f x = omega arith

-- the seat at its own place
pub after-places : (f x : Seat) → seat_after f (places_after f x) ≡ x
after-places North North = refl
after-places North East = refl
after-places North South = refl
after-places North West = refl
after-places East North = refl
after-places East East = refl
after-places East South = refl
after-places East West = refl
after-places South North = refl
after-places South East = refl
after-places South South = refl
after-places South West = refl
after-places West North = refl
after-places West East = refl
after-places West South = refl
after-places West West = refl

-- one turn of both seats
next-places : (f x : Seat) → places_after (next_seat f) (next_seat x) ≡ places_after f x
next-places North North = refl
next-places North East = refl
next-places North South = refl
next-places North West = refl
next-places East North = refl
next-places East East = refl
next-places East South = refl
next-places East West = refl
next-places South North = refl
next-places South East = refl
next-places South South = refl
next-places South West = refl
next-places West North = refl
next-places West East = refl
next-places West South = refl
next-places West West = refl

-- places turn with the seats
pub turned-places : (k : ℕ) (f x : Seat) → places_after (seat_after f k) (seat_after x k) ≡ places_after f x
turned-places zero f x = refl
turned-places (suc k) f x = next-places (seat_after f k) (seat_after x k) ∙ turned-places k f x

-- seats at one place are one seat
pub places-tell : (f x y : Seat) → places_after f x ≡ places_after f y → x ≡ y
places-tell f x y e = sym (after-places f x) ∙ ap (seat_after f) e ∙ after-places f y
