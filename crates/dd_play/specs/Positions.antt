-- When four hands and the cards on the trick are a position to play from, and why they are not.
use Rattle.std.specs.Prelude.{◌≡◌, ◌<◌, ◌≤◌, length}
use Rattle.dd_play.specs.Board.{Board, IsBoard, NoneTwice, IsEven, tricks_left}
use Rattle.dd_play.specs.declared.play_fault.PlayFault.{PlayFault}
use Rattle.dd_play.specs.declared.play_fault.PlayFault.TheVariants.{Played, Twice, Uneven, Empty}

-- a legal state of play in which there is a card to play
pub record CanPlay (p : Board) : Type 0 where
  pub board : IsBoard p
  pub cards : 1 ≤ tricks_left p

-- the fault's condition holds, and that of no earlier fault
abbrev pub IsFirstFault : PlayFault → Board → Type 0
IsFirstFault Played p = 3 < length p.trick
IsFirstFault Twice p = (length p.trick ≤ 3) × (¬ NoneTwice p)
IsFirstFault Uneven p = (length p.trick ≤ 3) × NoneTwice p × (¬ IsEven p)
IsFirstFault Empty p = (length p.trick ≤ 3) × NoneTwice p × IsEven p × (tricks_left p ≡ 0)
