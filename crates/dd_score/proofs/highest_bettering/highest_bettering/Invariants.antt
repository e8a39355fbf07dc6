use Rattle.std.proofs.Common.{◌≡◌, ◌-◌, ◌*◌}
use Rattle.dd_score.specs.Heights.{highest_bettering}
use Rattle.dd_score.proofs.highest_bettering.highest_bettering.Given as goal

abbrev pub invariant-loop-above : goal.invariant-loop-above
invariant-loop-above l =
    highest_bettering l.worths.tricks l.worths.vulnerable l.sought.order l.sought.score l.side 35
    ≡ highest_bettering l.worths.tricks l.worths.vulnerable l.sought.order l.sought.score l.side (5 * (7 - l.above))
