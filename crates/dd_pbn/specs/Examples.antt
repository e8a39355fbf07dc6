-- Two small deals, for examples.
use Rattle.std.specs.Prelude.{List, [], ◌∷◌}
use Rattle.dd_cards.specs.declared.suit.Suit.TheVariants.{Spades, Hearts}
use Rattle.dd_cards.specs.PlayingCard.{PlayingCard}
use Rattle.dd_cards.specs.Hands.{FourHands, dealt}
use Rattle.dd_cards.specs.Cards.{card_of}

-- North has the three and two of spades, East king and four, South ace and queen, West six and five
abbrev pub eight_spades : FourHands
eight_spades =
    dealt (card_of Spades 3 ∷ card_of Spades 2 ∷ []) (card_of Spades 13 ∷ card_of Spades 4 ∷ []) (card_of Spades 14 ∷ card_of Spades 12 ∷ []) (card_of Spades 6 ∷ card_of Spades 5 ∷ [])

-- North has the ace of spades and the two of hearts, East spade king and heart ace, South spade queen and heart king, West spade jack and heart queen
abbrev pub two_suits : FourHands
two_suits =
    dealt (card_of Spades 14 ∷ card_of Hearts 2 ∷ []) (card_of Spades 13 ∷ card_of Hearts 14 ∷ []) (card_of Spades 12 ∷ card_of Hearts 13 ∷ []) (card_of Spades 11 ∷ card_of Hearts 12 ∷ [])
