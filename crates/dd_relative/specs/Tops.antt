-- To be believed: starts of a trick by relative ranks in which the same hands have the highest cards.
use Rattle.std.specs.Prelude.{◌≡◌, ℕ, ◌+◌, ◌<◌}
use Rattle.dd_cards.specs.declared.seat.Seat.{Seat}
use Rattle.dd_cards.specs.declared.suit.Suit.{Suit}
use Rattle.dd_cards.specs.PlayingCard.{PlayingCard}
use Rattle.dd_cards.specs.Ranks.{IsRank}
use Rattle.dd_cards.specs.Cards.{has_card}
use Rattle.dd_play.specs.Board.{Board, cards_at}
use Rattle.dd_play.specs.Covers.{count_of}

-- The same strain, as many cards of each suit in each hand, and so many of the highest cards of each suit in the same hands. They have
-- the ranks from 14 down.
pub record HaveSameTops (depths : Suit → ℕ) (p q : Board) : Type 0 where
  pub strain : q.strain ≡ p.strain
  pub lengths : (x : Seat) (u : Suit) → count_of u (cards_at q x) ≡ count_of u (cards_at p x)
  pub tops : (x : Seat) (c : PlayingCard) → IsRank c.rank → 14 < c.rank + depths c.suit → has_card (cards_at q x) c ≡ has_card (cards_at p x) c
