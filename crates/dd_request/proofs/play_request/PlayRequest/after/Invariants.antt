use Rattle.std.proofs.Common.{drop}
use Rattle.dd_request.proofs.CardByCard.{IsOnTheWay}
use Rattle.dd_request.proofs.play_request.PlayRequest.after.Given as goal

-- What was played so far and what is left to play are the cards together.
abbrev pub invariant-loop-card : goal.invariant-loop-card
invariant-loop-card l = IsOnTheWay l.side l.self.opening l.played l.position l.won (drop l.card-index l.played)
