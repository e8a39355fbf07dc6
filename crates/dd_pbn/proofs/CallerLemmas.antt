-- What the crates above may cite of these proofs: they import nothing else of them.

-- ---- values and tags: what is read has the form and is noted, and what has the form is read
-- a value and nothing else is read so
pub use Rattle.dd_pbn.proofs.ValueTexts.{Reads-value}
-- a tag and nothing else is read so
pub use Rattle.dd_pbn.proofs.ValueTexts.{Reads-tag}
-- ---- a text spells one deal, or it has one fault
-- what is read of a text that spells a deal
pub use Rattle.dd_pbn.proofs.Decided.{spelled-read}
-- what is read of a text that spells none
pub use Rattle.dd_pbn.proofs.Decided.{failed-read}
-- a text spells a deal, or it has a fault
pub use Rattle.dd_pbn.proofs.Decided.{decided}
-- a text spells some deal, or it has a fault
pub use Rattle.dd_pbn.proofs.Decided.{deal-decided}
-- ---- Deal texts, read.
-- two suits
pub use Rattle.dd_pbn.proofs.Examples.{spades-and-hearts}
-- a hand is left out
pub use Rattle.dd_pbn.proofs.Examples.{left-out}
-- an ace stands twice in one hand
pub use Rattle.dd_pbn.proofs.Examples.{two-aces}
-- a tag
pub use Rattle.dd_pbn.proofs.Examples.{tag-from-east}
