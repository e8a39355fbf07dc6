-- what the leader's side takes of a start
use Rattle.std.proofs.Common.{◌≡◌, ◌≤◌, arith, []}
use Rattle.dd_cards.specs.Sides.{side_of}
use Rattle.dd_play.proofs.CallerLemmas.{all}
use Rattle.dd_play.specs.Board.{Board, IsBoard, tricks_left, mover}
use Rattle.dd_play.specs.Value.{leaders_tricks}
use Rattle.dd_play.specs.Won.{won}
use Rattle.dd_search.proofs.CallerLemmas.{lead-value}

-- the leader's side takes no more than is left, and so many
pub leaders-value : (p : Board) → IsBoard p → p.trick ≡ [] → (leaders_tricks p ≡ won (side_of (mover p)) p) × (won (side_of (mover p)) p ≤ tricks_left p)
leaders-value p valid start = (lead-value p start, (let h = all (side_of (mover p)) p valid in omega (arith, h)))
