-- Claims that rest on some cards and all higher ones alone: they hold as well where the lower cards are others.
use Rattle.std.specs.Prelude.{◌≡◌, ◌≤◌, ℕ, ◌+◌, ◌&&◌, Bool, true, List, nat_le}
use Rattle.std.specs.List.{list_any}
use Rattle.dd_cards.specs.declared.seat.Seat.{Seat}
use Rattle.dd_cards.specs.PlayingCard.{PlayingCard}
use Rattle.dd_cards.specs.Cards.{is_of, has_card}
use Rattle.dd_cards.specs.declared.side.Side.{Side}
use Rattle.dd_play.specs.Board.{Board, cards_at}
use Rattle.dd_play.specs.Play.{after}
use Rattle.dd_play.specs.Won.{won, trick_for}
use Rattle.dd_play.specs.Simulations.{IsLegal}
use Rattle.dd_play.specs.Covers.{Keeps, IsOver, Answers, IsCover}

-- is one of these cards of its suit and no higher?
abbrev pub reach : List PlayingCard → PlayingCard → Bool
reach cards c = list_any (λ d. is_of c.suit d && nat_le d.rank c.rank) cards

-- with a card, each higher one of its suit
abbrev pub IsUpward : (PlayingCard → Bool) → Type 0
IsUpward top = (c d : PlayingCard) → IsOver top c d

-- The order within one hand, which play itself does not need, but places do: the map keeps it too, and q's top cards are
-- higher than the low ones of their hand.
pub record IsStrict (top : PlayingCard → Bool) (to from : PlayingCard → PlayingCard) (p q : Board) : Type 0 where
  pub keeps : (x : Seat) (c d : PlayingCard) → has_card (cards_at p x) c ≡ true → has_card (cards_at p x) d ≡ true → Keeps to top c d
  pub over : (x : Seat) (c d : PlayingCard) → has_card (cards_at q x) c ≡ true → has_card (cards_at q x) d ≡ true → IsOver (λ y. top (from y)) c d

-- side s takes at least n of the tricks left, and so does its counterpart at each position that p covers with these top cards
abbrev pub TakesBy : (PlayingCard → Bool) → Side → Board → ℕ → Type 0
TakesBy top s p n = (k : ℕ) (to from : PlayingCard → PlayingCard) (t : Side) (q : Board) → IsCover top k to from s p t q → IsStrict top to from p q → n ≤ won t q

-- and when c is played, or there a card that answers it
abbrev pub IsWorth : (PlayingCard → Bool) → Side → Board → PlayingCard → ℕ → Type 0
IsWorth top s p c n = (k : ℕ) (to from : PlayingCard → PlayingCard) (t : Side) (q : Board) → IsCover top k to from s p t q → IsStrict top to from p q
    → (d : PlayingCard) → IsLegal q d → Answers to from top c d → n ≤ trick_for t q d + won t (after q d)
