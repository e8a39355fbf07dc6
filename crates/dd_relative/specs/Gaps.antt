-- Cards that move up over a gap in their suit.
use Rattle.std.specs.Prelude.{◌+◌, ◌-◌, ◌&&◌, List, filter, nat_le, nat_lt, if◌then◌else◌}
use Rattle.dd_cards.specs.PlayingCard.{PlayingCard}
use Rattle.dd_cards.specs.Cards.{is_of, card_of, has_card, deck}
use Rattle.dd_cards.specs.Hands.{FourHands, dealt}

-- where a card stands afterwards: below the gap in its suit, one rank higher
abbrev pub raised : PlayingCard → PlayingCard → PlayingCard
raised gap c = (if is_of gap.suit c && nat_lt c.rank gap.rank then card_of c.suit (c.rank + 1) else c)

-- the card that stands there afterwards
abbrev pub lowered : PlayingCard → PlayingCard → PlayingCard
lowered gap d = (if is_of gap.suit d && nat_le d.rank gap.rank then card_of d.suit (d.rank - 1) else d)

-- the cards with those below the gap moved up
unfoldable pub moved_up : PlayingCard → List PlayingCard → List PlayingCard
moved_up gap cards = filter (λ d. has_card cards (lowered gap d)) deck

-- .. of four hands
abbrev pub moved_hands : PlayingCard → FourHands → FourHands
moved_hands gap hands = dealt (moved_up gap hands.north) (moved_up gap hands.east) (moved_up gap hands.south) (moved_up gap hands.west)
