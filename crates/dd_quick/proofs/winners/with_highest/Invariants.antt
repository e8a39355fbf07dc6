use Rattle.dd_quick.proofs.Highest.{IsTaken}
use Rattle.dd_quick.proofs.winners.with_highest.Given as goal

-- the highest ranks were taken, one in each round
abbrev pub invariant-loop : goal.invariant-loop
invariant-loop l = IsTaken l.suit l.fn.cards l.fn.ranks l.cards l.rest l.counter
