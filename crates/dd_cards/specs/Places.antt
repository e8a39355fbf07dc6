-- A card by the number of its bit in the mask of a hand.
use Rattle.std.specs.Prelude.{ℕ, zero, suc, ◌/◌, ◌%◌, ◌<◌, ◌≤◌}
use Rattle.dd_cards.specs.declared.suit.Suit.{Suit}
use Rattle.dd_cards.specs.declared.suit.Suit.TheVariants.{Spades, Hearts, Diamonds, Clubs}
use Rattle.dd_cards.specs.PlayingCard.{PlayingCard}
use Rattle.dd_cards.specs.Cards.{card_of}

-- the bits of cards
abbrev pub IsPlace : ℕ → Type 0
IsPlace n = (n < 64) × (2 ≤ n % 16) × (n % 16 ≤ 14)

-- the suit of a lane of sixteen bits, the spades' being lane 3
abbrev pub suit_of_lane : ℕ → Suit
suit_of_lane zero = Clubs
suit_of_lane (suc zero) = Diamonds
suit_of_lane (suc (suc zero)) = Hearts
suit_of_lane (suc (suc (suc _))) = Spades

-- the card of a bit
unfoldable pub at_place : ℕ → PlayingCard
at_place n = card_of (suit_of_lane (n / 16)) (n % 16)
