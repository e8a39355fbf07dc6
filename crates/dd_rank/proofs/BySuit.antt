-- what holds of each of the four suits
use Rattle.dd_cards.specs.declared.suit.Suit.{Suit}
use Rattle.dd_cards.specs.declared.suit.Suit.TheVariants.{Spades, Hearts, Diamonds, Clubs}

-- one proof a suit
pub by-suit : (P : Suit → Type 0) → P Spades → P Hearts → P Diamonds → P Clubs → (u : Suit) → P u
by-suit P s h d c Spades = s
by-suit P s h d c Hearts = h
by-suit P s h d c Diamonds = d
by-suit P s h d c Clubs = c
