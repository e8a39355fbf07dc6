-- What the crates above may cite of these proofs: they import nothing else of them.

-- ---- Par.
-- all results have a par
pub use Rattle.dd_score.proofs.ParLemmas.{some-par}
