-- Runs of cards of one suit with no rank missing.
use Rattle.std.specs.Prelude.{◌+◌, List, filter}
use mathlib.Core.Bool.{not}
use Rattle.dd_cards.specs.PlayingCard.{PlayingCard}
use Rattle.dd_cards.specs.Cards.{card_of, has_card}

-- the card of the suit one rank higher
abbrev pub next_above : PlayingCard → PlayingCard
next_above c = card_of c.suit (c.rank + 1)

-- the highest card of each run
abbrev pub heads_of : List PlayingCard → List PlayingCard
heads_of cards = filter (λ c. not (has_card cards (next_above c))) cards
