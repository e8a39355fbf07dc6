-- To be believed: the tricks that a side takes from here on when both sides play as well as can be, by playing every legal card.
use Rattle.std.specs.Prelude.{ℕ, zero, suc, ◌+◌, ◌-◌, List, [], ◌∷◌, map, fold, max, min, ◌&&◌, if◌then◌else◌, Option, None, Some}
use Rattle.dd_cards.specs.declared.seat.Seat.{Seat}
use Rattle.dd_cards.specs.PlayingCard.{PlayingCard}
use Rattle.dd_cards.specs.Seats.{is_north_south}
use Rattle.dd_cards.specs.Sides.{side_of}
use Rattle.dd_cards.specs.declared.side.Side.{Side}
use Rattle.dd_cards.specs.declared.side.Side.TheVariants.{NorthSouth, EastWest}
use Rattle.dd_play.specs.Board.{Board, cards_left, tricks_left, mover}
use Rattle.dd_play.specs.Tricks.{winner_of}
use Rattle.dd_play.specs.Play.{legal, completes, trick_with, after}

-- of two numbers of North and South's tricks, the one that the side plays for
abbrev pub better : Side → ℕ → ℕ → ℕ
better NorthSouth a b = max a b
better EastWest a b = min a b

-- the greatest of the numbers for North and South, and the least for East and West
abbrev pub best : Side → List ℕ → ℕ
best side [] = 0
best side (x ∷ xs) = fold (better side) x xs

-- a trick that this seat won
abbrev pub north_souths_trick : Option Seat → ℕ
north_souths_trick None = 0
north_souths_trick (Some seat) = (if is_north_south seat then 1 else 0)

-- 1 where c completes a trick that North or South wins
abbrev pub gain : Board → PlayingCard → ℕ
gain p c = (if completes p && is_north_south (winner_of (trick_with p c) p.first p.strain) then 1 else 0)

-- North and South play for the greatest number, East and West for the least; at most n cards are looked ahead
unfoldable pub ns_within : ℕ → Board → ℕ
ns_within zero p = 0
ns_within (suc n) p = best (side_of (mover p)) (map (λ c. gain p c + ns_within n (after p c)) (legal p))

-- the tricks that North and South take from here on
abbrev pub ns : Board → ℕ
ns p = ns_within (cards_left p) p

-- the tricks that North and South take when c is played
abbrev pub ns_with : Board → PlayingCard → ℕ
ns_with p c = gain p c + ns (after p c)

-- the tricks that the side of the mover takes when c is played (DDS: the score of a card)
abbrev pub score : Board → PlayingCard → ℕ
score p c = (if is_north_south (mover p) then ns_with p c else (tricks_left p - ns_with p c))

-- at an empty trick, the tricks that the leader's side takes
abbrev pub leaders_tricks : Board → ℕ
leaders_tricks p = (if is_north_south p.first then ns p else (tricks_left p - ns p))
