-- Small deals whose value can be counted by hand.
use Rattle.std.specs.Prelude.{ℕ, List, [], map}
use Rattle.dd_cards.specs.declared.seat.Seat.{Seat}
use Rattle.dd_cards.specs.declared.suit.Suit.TheVariants.{Spades, Hearts}
use Rattle.dd_cards.specs.declared.strain.Strain.{Strain}
use Rattle.dd_cards.specs.PlayingCard.{PlayingCard}
use Rattle.dd_cards.specs.Cards.{card_of}
use Rattle.dd_cards.specs.Hands.{dealt}
use Rattle.dd_play.specs.Board.{Board, board_of}

-- the spades of these ranks, the jack being 11 and the ace 14
abbrev pub spades : List ℕ → List PlayingCard
spades ranks = map (card_of Spades) ranks

abbrev pub hearts : List ℕ → List PlayingCard
hearts ranks = map (card_of Hearts) ranks

-- the hands of North, East, South and West before a trick
abbrev pub deal : List PlayingCard → List PlayingCard → List PlayingCard → List PlayingCard → Strain → Seat → Board
deal north east south west strain first = board_of (dealt north east south west) strain first []
