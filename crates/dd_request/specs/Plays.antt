-- To be believed: plays, and the tricks that declarer's side takes before the first card of one and after each (DDS manual, AnalysePlay).
use Rattle.std.specs.Prelude.{ℕ, ◌+◌, List, [], ◌∷◌, length, map, take}
use Rattle.std.specs.List.{range_with_len}
use Rattle.dd_cards.specs.PlayingCard.{PlayingCard}
use Rattle.dd_cards.specs.Seats.{next_seat}
use Rattle.dd_cards.specs.Sides.{side_of}
use Rattle.dd_cards.specs.declared.side.Side.{Side}
use Rattle.dd_play.specs.Board.{Board}
use Rattle.dd_play.specs.Play.{after}
use Rattle.dd_play.specs.Simulations.{IsLegal}
use Rattle.dd_play.specs.Won.{won, trick_for}

-- the position before the opening lead, and the cards in the order in which they were played
pub record Play : Type 0 where
  pub opening : Board
  pub cards : List PlayingCard

-- each card is legal in the position that the cards before it leave
abbrev pub IsRegular : Board → List PlayingCard → Type 0
IsRegular p [] = Unit {0}
IsRegular p (c ∷ cards) = IsLegal p c × IsRegular (after p c) cards

-- the position that these cards leave
abbrev pub position_after : Board → List PlayingCard → Board
position_after p [] = p
position_after p (c ∷ cards) = position_after (after p c) cards

-- the tricks that the side wins among those which these cards complete
abbrev pub tricks_won : Side → Board → List PlayingCard → ℕ
tricks_won side p [] = 0
tricks_won side p (c ∷ cards) = trick_for side p c + tricks_won side (after p c) cards

-- declarer's side, which the opening leader is not of: the hand to the left of declarer leads first (Laws of Duplicate Bridge 2017, 41A)
abbrev pub declarers : Board → Side
declarers opening = side_of (next_seat opening.first)

-- the tricks that the side takes in all: those won when these cards were played, and those that it takes from there on when both sides play as well as can be
abbrev pub tricks_with : Side → Board → List PlayingCard → ℕ
tricks_with side p cards = tricks_won side p cards + won side (position_after p cards)

-- the position after the first n cards
abbrev pub position_at : Play → ℕ → Board
position_at play n = position_after play.opening (take n play.cards)

-- the tricks that declarer's side takes after the first n cards
unfoldable pub tricks_after : Play → ℕ → ℕ
tricks_after play n = tricks_with (declarers play.opening) play.opening (take n play.cards)

-- before the first card and after each one
unfoldable pub trace : Play → List ℕ
trace play = map (tricks_after play) (range_with_len 0 (length play.cards + 1))

-- ---- traces with what they are traces of

-- a play with its trace
pub record PlayTrace : Type 0 where
  pub play : Play
  pub tricks : List ℕ

abbrev pub play_trace : Play → PlayTrace
play_trace play = record { play = play; tricks = trace play }

-- a position with the tricks that a side takes from it on
pub record PositionTricks : Type 0 where
  pub board : Board
  pub side : Side
  pub tricks : ℕ

abbrev pub position_tricks : Board → Side → PositionTricks
position_tricks board side = record { board = board; side = side; tricks = won side board }
