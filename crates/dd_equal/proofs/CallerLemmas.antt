-- What the crates above may cite of these proofs: they import nothing else of them.

-- ---- a legal card wins as much as the highest card of its class
-- where the other side is to play, the highest card of each class stands for the class
pub use Rattle.dd_equal.proofs.ClassTops.{every-class}
-- ---- equal cards that a claim rests on are answered by equal cards, so one is worth as much as another
-- the law, in the words of the test
pub use Rattle.dd_equal.proofs.Images.{each-class-whole}
-- ---- which cards are reached of one suit, and the class that the lowest of them cuts
-- a card of a set is in it with one card more
pub use Rattle.dd_equal.proofs.Wholes.{with-old}
-- the card that joins a set is in it
pub use Rattle.dd_equal.proofs.Wholes.{with-new}
-- a card of a set with one card more is that card or was there
pub use Rattle.dd_equal.proofs.Wholes.{with-which}
