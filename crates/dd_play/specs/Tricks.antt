-- To be believed: who wins a trick (Laws of Duplicate Bridge 2017, 44E and 44F).
use Rattle.std.specs.Prelude.{ℕ, ◌&&◌, Bool, false, List, [], ◌∷◌, filter, nat_le}
use Rattle.std.specs.List.{list_all, position_or_len}
use Rattle.dd_cards.specs.declared.seat.Seat.{Seat}
use Rattle.dd_cards.specs.declared.strain.Strain.{Strain}
use Rattle.dd_cards.specs.declared.strain.Strain.TheVariants.{Trump, Notrump}
use Rattle.dd_cards.specs.PlayingCard.{PlayingCard}
use Rattle.dd_cards.specs.Seats.{seat_after}
use Rattle.dd_cards.specs.Cards.{is_of, has_card}

-- these cards, or those where there is none of these
abbrev pub or_else : List PlayingCard → List PlayingCard → List PlayingCard
or_else [] those = those
or_else (c ∷ these) those = c ∷ these

abbrev pub is_trump : Strain → PlayingCard → Bool
is_trump (Trump suit) c = is_of suit c
is_trump Notrump c = false

-- the cards that decide a trick: the trumps on it if there are any, else the cards of the suit led
abbrev pub deciding : Strain → List PlayingCard → List PlayingCard
deciding strain [] = []
deciding strain (led ∷ rest) = or_else (filter (is_trump strain) (led ∷ rest)) (filter (is_of led.suit) (led ∷ rest))

-- is it one of these cards, and none of them is higher?
abbrev pub is_highest_of : List PlayingCard → PlayingCard → Bool
is_highest_of cards c = has_card cards c && list_all (λ d. nat_le d.rank c.rank) cards

-- the place on the trick of the highest deciding card
abbrev pub winning_place : Strain → List PlayingCard → ℕ
winning_place strain trick = position_or_len (is_highest_of (deciding strain trick)) trick

-- the seat that played the highest trump, or the highest card of the suit led where no trump was played
abbrev pub winner_of : List PlayingCard → Seat → Strain → Seat
winner_of trick first strain = seat_after first (winning_place strain trick)
