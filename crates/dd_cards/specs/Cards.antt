-- To be believed: cards, and a set of cards as their list in one order: suit by suit, and in a suit from the ace down.
use Rattle.std.specs.Prelude.{ℕ, ◌+◌, ◌*◌, ◌%◌, ◌<◌, ◌==◌, ◌&&◌, ◌||◌, Bool, List, ◌++◌, map, filter}
use Rattle.std.specs.List.{list_any}
use mathlib.Core.Bool.{not}
use Rattle.dd_cards.specs.declared.suit.Suit.{Suit}
use Rattle.dd_cards.specs.declared.suit.Suit.TheVariants.{Spades, Hearts, Diamonds, Clubs}
use Rattle.dd_cards.specs.PlayingCard.{PlayingCard}
use Rattle.dd_cards.specs.Suits.{suit_code, suit_shift}
use Rattle.dd_cards.specs.Ranks.{IsRank, all_ranks}

-- is it a card of this suit?
abbrev pub is_of : Suit → PlayingCard → Bool
is_of suit c = suit_code c.suit == suit_code suit

-- is it the same card?
abbrev pub same_card : PlayingCard → PlayingCard → Bool
same_card c d = is_of d.suit c && (c.rank == d.rank)

-- the card of a suit and a rank
abbrev pub card_of : Suit → ℕ → PlayingCard
card_of s r = record { suit = s; rank = r }

-- the thirteen cards of a suit, from the ace down
unfoldable pub suit_cards : Suit → List PlayingCard
suit_cards suit = map (card_of suit) all_ranks

-- all 52 cards
unfoldable pub deck : List PlayingCard
deck = suit_cards Spades ++ suit_cards Hearts ++ suit_cards Diamonds ++ suit_cards Clubs

-- is the card in the list?
abbrev pub has_card : List PlayingCard → PlayingCard → Bool
has_card cards c = list_any (λ d. same_card d c) cards

-- the cards without c
abbrev pub without : List PlayingCard → PlayingCard → List PlayingCard
without cards c = filter (λ d. not (same_card d c)) cards

-- the same cards and c, in the order of the deck
abbrev pub with_card : List PlayingCard → PlayingCard → List PlayingCard
with_card cards c = filter (λ d. same_card d c || has_card cards d) deck

-- a card's code: 16 times the suit's code plus the rank
abbrev pub card_code : PlayingCard → ℕ
card_code c = 16 * suit_code c.suit + c.rank

-- the codes of the 52 cards
abbrev pub IsCardCode : ℕ → Type 0
IsCardCode n = (n < 64) × IsRank (n % 16)

-- the card's bit in a hand
abbrev pub place_of : PlayingCard → ℕ
place_of c = suit_shift c.suit + c.rank
