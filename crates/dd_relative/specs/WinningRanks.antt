-- Sets of winning ranks: of each suit some of the highest cards.
use Rattle.std.specs.Prelude.{◌≡◌, ◌≤◌, ◌&&◌, ◌||◌, true, ℕ, List, filter}
use Rattle.dd_cards.specs.PlayingCard.{PlayingCard}
use Rattle.dd_cards.specs.Cards.{deck, has_card, is_of}
use Rattle.dd_play.specs.Board.{Board}
use Rattle.dd_rank.specs.Alike.{IsAlikeBy}
use Rattle.dd_rank.specs.Depths.{all_cards}
use Rattle.dd_relative.specs.Relative.{IsRelative}
use Rattle.dd_relative.specs.Runs.{next_above}

-- with a card each higher one of its suit
abbrev pub AreTop : List PlayingCard → Type 0
AreTop cards = (c d : PlayingCard) → has_card cards c ≡ true → d.suit ≡ c.suit → c.rank ≤ d.rank → d.rank ≤ 14 → has_card cards d ≡ true

-- these cards, and where they reach the gap the next lower one of its suit
abbrev pub with_next : PlayingCard → List PlayingCard → List PlayingCard
with_next gap cards = filter (λ d. has_card cards d || (has_card cards gap && (is_of gap.suit d && has_card cards (next_above d)))) deck

-- Of a start of a trick these cards are just those which stand among the others by relative ranks.
pub record AreBefore (p : Board) (later cards : List PlayingCard) : Type 0 where
  pub q : Board
  pub k : ℕ
  pub to : PlayingCard → PlayingCard
  pub from : PlayingCard → PlayingCard
  pub relative : IsRelative q
  pub alike : IsAlikeBy k to from p q
  pub same : (c : PlayingCard) → has_card (all_cards p) c ≡ true → has_card cards c ≡ has_card later (to c)

-- The same of hands that North leads from, with no turn of the seats.
pub record AreOpened (p : Board) (later cards : List PlayingCard) : Type 0 where
  pub q : Board
  pub to : PlayingCard → PlayingCard
  pub from : PlayingCard → PlayingCard
  pub relative : IsRelative q
  pub alike : IsAlikeBy 0 to from p q
  pub same : (c : PlayingCard) → has_card (all_cards p) c ≡ true → has_card cards c ≡ has_card later (to c)
