-- Which cards are in play: those in the hands and on the trick. While a trick lasts they are the same.
use Rattle.std.specs.Prelude.{◌||◌, Bool}
use Rattle.dd_cards.specs.PlayingCard.{PlayingCard}
use Rattle.dd_cards.specs.Cards.{has_card}
use Rattle.dd_cards.specs.Hands.{FourHands}
use Rattle.dd_play.specs.Board.{Board}

-- is the card in one of the hands?
abbrev pub is_in_hands : FourHands → PlayingCard → Bool
is_in_hands hands c = (has_card hands.north c || has_card hands.east c) || (has_card hands.south c || has_card hands.west c)

-- is the card in one of the hands or on the trick?
abbrev pub is_in_play : Board → PlayingCard → Bool
is_in_play p c = is_in_hands p.hands c || has_card p.trick c
