-- To be believed: the suits and their codes.
use Rattle.std.specs.Prelude.{ℕ, ◌-◌, ◌*◌}
use Rattle.dd_cards.specs.declared.suit.Suit.{Suit}
use Rattle.dd_cards.specs.declared.suit.Suit.TheVariants.{Spades, Hearts, Diamonds, Clubs}

-- the code of a suit (DDS suit)
abbrev pub suit_code : Suit → ℕ
suit_code Spades = 0
suit_code Hearts = 1
suit_code Diamonds = 2
suit_code Clubs = 3

-- a hand has sixteen bits for each suit, the spades on top
abbrev pub suit_shift : Suit → ℕ
suit_shift suit = 48 - 16 * suit_code suit
