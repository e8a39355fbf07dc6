-- The winner of a trick in the form that is computed: each card is a number, and the greatest wins.
use Rattle.std.specs.Prelude.{ℕ, ◌+◌, List, [], ◌∷◌, map, nat_le, if◌then◌else◌}
use Rattle.std.specs.List.{list_all, position_or_len}
use Rattle.dd_cards.specs.declared.suit.Suit.{Suit}
use Rattle.dd_cards.specs.declared.strain.Strain.{Strain}
use Rattle.dd_cards.specs.PlayingCard.{PlayingCard}
use Rattle.dd_cards.specs.Cards.{is_of}
use Rattle.dd_play.specs.Tricks.{is_trump}

-- a trump is stronger than every other card, and a card of the suit led than one of a third suit
abbrev pub strength : Strain → Suit → PlayingCard → ℕ
strength strain led c = (if is_trump strain c then 20 + c.rank else (if is_of led c then c.rank else 0))

-- the place of the greatest number
abbrev pub place_of_greatest : List ℕ → ℕ
place_of_greatest xs = position_or_len (λ x. list_all (λ y. nat_le y x) xs) xs

-- the place of the strongest card
abbrev pub strongest_place : Strain → List PlayingCard → ℕ
strongest_place strain [] = 0
strongest_place strain (led ∷ rest) = place_of_greatest (map (strength strain led.suit) (led ∷ rest))
