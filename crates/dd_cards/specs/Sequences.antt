-- To be believed: which cards are above another, and sequences: cards of one suit with none of the others between them.
use Rattle.std.specs.Prelude.{◌&&◌, Bool, List, filter, nat_lt}
use Rattle.std.specs.List.{list_any}
use mathlib.Core.Bool.{not}
use Rattle.dd_cards.specs.PlayingCard.{PlayingCard}
use Rattle.dd_cards.specs.Cards.{is_of}

-- is d a higher card of c's suit?
abbrev pub is_above : PlayingCard → PlayingCard → Bool
is_above c d = is_of c.suit d && nat_lt c.rank d.rank

-- is one of these cards above c, with none of the others between?
abbrev pub is_headed : List PlayingCard → List PlayingCard → PlayingCard → Bool
is_headed cards others c = list_any (λ d. is_above c d && not (list_any (λ e. is_above c e && is_above e d) others)) cards

-- the highest card of each sequence
abbrev pub heads : List PlayingCard → List PlayingCard → List PlayingCard
heads cards others = filter (λ c. not (is_headed cards others c)) cards
