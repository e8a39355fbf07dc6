-- The four hands as a seat sees them, clockwise from its own.
use Rattle.std.specs.Prelude.{◌≡◌, List, ℕ, map, filter}
use Rattle.dd_cards.specs.declared.seat.Seat.{Seat}
use Rattle.dd_cards.specs.declared.suit.Suit.{Suit}
use Rattle.dd_cards.specs.PlayingCard.{PlayingCard}
use Rattle.dd_cards.specs.Ranks.{all_ranks, has_rank}
use Rattle.dd_cards.specs.Cards.{is_of, card_of}
use Rattle.dd_cards.specs.Seats.{seat_after}
use Rattle.dd_play.specs.Board.{Board, IsBoard, cards_at}
use Rattle.dd_quick.specs.QuickTricks.{trumps_at}

-- these are the cards of the four hands, and how many trumps each opponent has
pub record IsSeen (p : Board) (own left partner right : List PlayingCard) (left_trumps right_trumps : ℕ) : Type 0 where
  pub valid : IsBoard p
  pub at_own : own ≡ cards_at p p.first
  pub at_left : left ≡ cards_at p (seat_after p.first 1)
  pub at_partner : partner ≡ cards_at p (seat_after p.first 2)
  pub at_right : right ≡ cards_at p (seat_after p.first 3)
  pub trumps_left : left_trumps ≡ trumps_at p.strain p (seat_after p.first 1)
  pub trumps_right : right_trumps ≡ trumps_at p.strain p (seat_after p.first 3)

-- these are the ranks of the suit in the four hands
pub record AreRanks (p : Board) (seat : Seat) (suit : Suit) (own left partner right : List ℕ) : Type 0 where
  pub valid : IsBoard p
  pub of_own : map (card_of suit) own ≡ filter (is_of suit) (cards_at p seat)
  pub of_left : map (card_of suit) left ≡ filter (is_of suit) (cards_at p (seat_after seat 1))
  pub of_partner : map (card_of suit) partner ≡ filter (is_of suit) (cards_at p (seat_after seat 2))
  pub of_right : map (card_of suit) right ≡ filter (is_of suit) (cards_at p (seat_after seat 3))

-- it is a set of ranks, highest first
abbrev pub IsRanks : List ℕ → Type 0
IsRanks ranks = ranks ≡ filter (has_rank ranks) all_ranks
