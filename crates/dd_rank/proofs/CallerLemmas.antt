-- What the crates above may cite of these proofs: they import nothing else of them.

-- ---- a cover of a cover is a cover: what an entry's position covers at depths, the position asked covers too
-- a cover of a cover is a cover, by the two turns together
pub use Rattle.dd_rank.proofs.Chains.{covers-chain}
-- ---- what a table tells, and what it is told, by cards that are reached
-- bounds that hold of each position that p covers at depths are claims by cards of no smaller depths
pub use Rattle.dd_rank.proofs.Told.{told}
-- what both sides claim by cards holds of each position that p covers at no smaller depths
pub use Rattle.dd_rank.proofs.Told.{noted}
-- ---- the set of all cards left, and how many of them are reached
-- the first rank is there
pub use Rattle.dd_rank.proofs.Lowest.{first-there}
-- ---- full depths, and a position's own
-- a position covers itself
pub use Rattle.dd_rank.proofs.Fulls.{itself}
-- at full depths a position and one that it covers have one value
pub use Rattle.dd_rank.proofs.Fulls.{full-lead}
-- ---- Positions are alike exactly where their owner strings are the same: full depths cover exactly the alike positions.
-- equal shapes are one shape
pub use Rattle.dd_rank.proofs.Alikes.{shapes-tell}
-- cards of a list that pass one test and so another are no more than those that pass the other
pub use Rattle.dd_rank.proofs.Places.{count-le}
-- a seat's card is one of all
pub use Rattle.dd_rank.proofs.Places.{in-all}
-- a seat so many places on tells the number
pub use Rattle.dd_rank.proofs.Seated.{after-tells}
-- the hand of a seat so many places from the leader
pub use Rattle.dd_rank.proofs.Seated.{at-seat}
-- no card of a board stands twice
pub use Rattle.dd_rank.proofs.Looked.{all-once}
-- an empty trick is answered by an empty one
pub use Rattle.dd_rank.proofs.Looked.{no-trick}
-- each card of a board is a seat's
pub use Rattle.dd_rank.proofs.Covered.{all-in}
