use Rattle.std.proofs.Common.{◌≡◌, ◌-◌, ◌*◌}
use Rattle.dd_score.specs.Stands.{stands}
use Rattle.dd_score.proofs.par_score.par_score.Given as goal

abbrev pub invariant-loop-level : goal.invariant-loop-level
invariant-loop-level l = l.score ≡ stands l.worths.tricks l.worths.vulnerable l.fn.order (5 * (l.level - 1))
