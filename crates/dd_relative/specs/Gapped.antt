-- A start of a trick whose suits have gaps: cards of the pack between or above those left.
use Rattle.std.specs.Prelude.{◌≡◌, ◌≤◌, ◌||◌, Bool, true, false, List, []}
use Rattle.dd_cards.specs.PlayingCard.{PlayingCard}
use Rattle.dd_cards.specs.Ranks.{IsRank}
use Rattle.dd_cards.specs.Cards.{has_card}
use Rattle.dd_cards.specs.Hands.{times}
use Rattle.dd_play.specs.Board.{Board, IsBoard}
use Rattle.dd_rank.specs.Alike.{IsAlike}
use Rattle.dd_rank.specs.Depths.{all_cards}

-- a card of a hand, or a gap
abbrev pub stands : Board → List PlayingCard → PlayingCard → Bool
stands p gaps c = has_card (all_cards p) c || has_card gaps c

-- A start of a trick, and gaps: with a card or a gap, each higher rank of its suit is a card or a gap.
pub record IsGapped (p : Board) (gaps : List PlayingCard) : Type 0 where
  pub board : IsBoard p
  pub start : p.trick ≡ []
  pub once : (c : PlayingCard) → times gaps c ≤ 1
  pub real : (c : PlayingCard) → has_card gaps c ≡ true → IsRank c.rank
  pub apart : (c : PlayingCard) → has_card gaps c ≡ true → has_card (all_cards p) c ≡ false
  pub closed : (c d : PlayingCard) → stands p gaps c ≡ true → d.suit ≡ c.suit → c.rank ≤ d.rank → d.rank ≤ 14 → stands p gaps d ≡ true

-- from these hands to those, some gaps have been closed
pub record IsClosing (entry now : Board) (gaps : List PlayingCard) : Type 0 where
  pub gapped : IsGapped now gaps
  pub alike : IsAlike entry now
