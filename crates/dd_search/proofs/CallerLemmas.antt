-- What the crates above may cite of these proofs: they import nothing else of them.

-- ---- putting moves in order loses none and doubles none
-- the highest card of a class is legal
pub use Rattle.dd_search.proofs.Orders.{top-legal}
-- ---- the value of a position is the greatest score of its cards
-- no card scores more than the value
pub use Rattle.dd_search.proofs.Greatest.{score-most}
-- the highest card of some class scores the value
pub use Rattle.dd_search.proofs.Greatest.{score-reached}
-- at the start of a trick the value is the leader's
pub use Rattle.dd_search.proofs.Greatest.{lead-value}
-- ---- the classes of a position, one by one
-- the highest card of a class may be played
pub use Rattle.dd_search.proofs.Classes.{class-legal}
-- the classes are at most thirteen
pub use Rattle.dd_search.proofs.Classes.{few-classes}
-- what a card is worth to one side and to the other is all tricks
pub use Rattle.dd_search.proofs.Greatest.{against}
-- a side takes no more than the tricks left
pub use Rattle.dd_search.proofs.Known.{value-within}
