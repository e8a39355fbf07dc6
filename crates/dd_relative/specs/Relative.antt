-- To be believed: a start of a trick by relative ranks: the leader is North, and of each suit the cards left are the highest.
use Rattle.std.specs.Prelude.{◌≡◌, ◌≤◌, true, List, []}
use Rattle.dd_cards.specs.declared.seat.Seat.TheVariants.{North}
use Rattle.dd_cards.specs.declared.strain.Strain.{Strain}
use Rattle.dd_cards.specs.PlayingCard.{PlayingCard}
use Rattle.dd_cards.specs.Cards.{has_card}
use Rattle.dd_cards.specs.Hands.{dealt}
use Rattle.dd_play.specs.Board.{Board, board_of, IsBoard}
use Rattle.dd_rank.specs.Depths.{all_cards}

-- with a card of a hand, each higher one of its suit is in some hand
abbrev pub IsClosedUp : Board → Type 0
IsClosedUp p = (c d : PlayingCard) → has_card (all_cards p) c ≡ true → d.suit ≡ c.suit → c.rank ≤ d.rank → d.rank ≤ 14 → has_card (all_cards p) d ≡ true

-- a start of a trick by relative ranks
pub record IsRelative (p : Board) : Type 0 where
  pub board : IsBoard p
  pub start : p.trick ≡ []
  pub leader : p.first ≡ North
  pub closed : IsClosedUp p

-- the start of a trick with these hands from the leader on, who is North
abbrev pub led_by_north : List PlayingCard → List PlayingCard → List PlayingCard → List PlayingCard → Strain → Board
led_by_north leader second third fourth strain = board_of (dealt leader second third fourth) strain North []
