use Rattle.std.proofs.Common.{◌≡◌, ◌-◌}
use Rattle.dd_score.specs.ParContracts.{least_of, least_from}
use Rattle.dd_score.proofs.par_list.least.Given as goal

abbrev pub invariant-loop-level : goal.invariant-loop-level
invariant-loop-level l =
    least_of l.worths.tricks l.worths.vulnerable l.sought.order l.sought.score l.strain l.side
    ≡ least_from l.worths.tricks l.worths.vulnerable l.sought.order l.sought.score l.side l.strain (8 - l.level) l.level
