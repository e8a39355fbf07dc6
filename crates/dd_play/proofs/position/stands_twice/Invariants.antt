use Rattle.std.proofs.Common.{take}
use Rattle.dd_play.proofs.Twice.{Counted}
use Rattle.dd_play.proofs.position.stands_twice.Given as goal

abbrev pub invariant-loop-card : goal.invariant-loop-card
invariant-loop-card l = Counted l.seen l.hands (take l.card-index l.trick)
