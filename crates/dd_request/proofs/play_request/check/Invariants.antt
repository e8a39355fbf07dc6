use Rattle.std.proofs.Common.{drop}
use Rattle.dd_request.proofs.Regular.{IsChecked}
use Rattle.dd_request.proofs.play_request.check.Given as goal

-- The play is regular where what is left of it is from here on, and their faults are the same.
abbrev pub invariant-loop-card : goal.invariant-loop-card
invariant-loop-card l = IsChecked l.opening l.cards l.position (drop l.card-index l.cards)
