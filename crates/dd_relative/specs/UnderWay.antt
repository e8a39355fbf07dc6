-- A trick under way: the hands as they were before it, and the cards played.
use Rattle.std.specs.Prelude.{◌≡◌, true, List, [], ◌∷◌}
use Rattle.dd_cards.specs.declared.seat.Seat.TheVariants.{North}
use Rattle.dd_cards.specs.PlayingCard.{PlayingCard}
use Rattle.dd_cards.specs.Cards.{has_card, without}
use Rattle.dd_cards.specs.Hands.{dealt}
use Rattle.dd_play.specs.Board.{Board, board_of, IsBoard}

-- the board when North and the hands after it have played these cards, three at most
abbrev pub under_way : Board → List PlayingCard → Board
under_way s [] = s
under_way s (a ∷ []) = board_of (dealt (without s.hands.north a) s.hands.east s.hands.south s.hands.west) s.strain North (a ∷ [])
under_way s (a ∷ b ∷ []) = board_of (dealt (without s.hands.north a) (without s.hands.east b) s.hands.south s.hands.west) s.strain North (a ∷ b ∷ [])
under_way s (a ∷ b ∷ c ∷ rest) = board_of (dealt (without s.hands.north a) (without s.hands.east b) (without s.hands.south c) s.hands.west) s.strain North (a ∷ b ∷ c ∷ [])

-- each card is of the hand that played it
abbrev pub AreOwn : Board → List PlayingCard → Type 0
AreOwn s [] = Unit {0}
AreOwn s (a ∷ []) = has_card s.hands.north a ≡ true
AreOwn s (a ∷ b ∷ []) = (has_card s.hands.north a ≡ true) × (has_card s.hands.east b ≡ true)
AreOwn s (a ∷ b ∷ c ∷ rest) = (has_card s.hands.north a ≡ true) × (has_card s.hands.east b ≡ true) × (has_card s.hands.south c ≡ true)

-- a legal state of play that came about so
pub record IsUnderWay (s : Board) (trick : List PlayingCard) : Type 0 where
  pub board : IsBoard (under_way s trick)
  pub own : AreOwn s trick
