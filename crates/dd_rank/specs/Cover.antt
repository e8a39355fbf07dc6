-- To be believed: a position that stands with depths for all positions that it covers.
use Rattle.std.specs.Prelude.{◌≡◌}
use Rattle.dd_play.specs.Board.{Board}
use Rattle.dd_rank.specs.Depths.{FourDepths, depth_in, Covers}

-- a start of a trick, and how many of the highest cards of each suit matter
pub record CoverOf : Type 0 where
  pub board : Board
  pub depths : FourDepths

-- the same depths, and each covers the other
abbrev pub IsSameCover : CoverOf → CoverOf → Type 0
IsSameCover a b = (b.depths ≡ a.depths) × Covers a.board (depth_in a.depths) b.board × Covers b.board (depth_in b.depths) a.board
