-- What the crates above may cite of these proofs: they import nothing else of them.

-- ---- regular plays, and the fault of the first card that is not legal in its turn
-- a play is regular or has a first fault
pub use Rattle.dd_request.proofs.Regular.{regular-decided}
-- a regular play has none
pub use Rattle.dd_request.proofs.Regular.{regular-faultless}
-- and no play has two
pub use Rattle.dd_request.proofs.Regular.{one-first-fault}
-- ---- what is the same by the tests
-- the same position, and as many cards asked for, are one question
pub use Rattle.dd_request.proofs.SameLaws.{same_question-is}
-- the same with a target
pub use Rattle.dd_request.proofs.SameLaws.{same_target-is}
-- ---- the numbers of a trace
-- the position after some cards of a play, and the tricks won by then
pub use Rattle.dd_request.proofs.CardByCard.{Stands}
-- which is a legal state of play
pub use Rattle.dd_request.proofs.CardByCard.{stands-valid}
-- the number there is what was won, with what comes
pub use Rattle.dd_request.proofs.CardByCard.{number-here}
-- what some cards and then some more leave, what they win, and that both are regular
pub use Rattle.dd_request.proofs.CardByCard.{after-append, won-append, regular-front}
-- the first cards of a regular play are one
pub use Rattle.dd_request.proofs.CardByCard.{regular-take}
-- ---- the twenty results
-- each contract stands at the place of its codes
pub use Rattle.dd_request.proofs.Openings.{contract-at}
-- those of the five strains, one after another, are the results
pub use Rattle.dd_request.proofs.Parts.{results-strains}
