use Rattle.std.proofs.Common.{◌≡◌, true, nat_le, take}
use Rattle.std.specs.List.{list_all}
use Rattle.dd_score.proofs.results.Results.new.Given as goal

abbrev pub invariant-loop-row : goal.invariant-loop-row
invariant-loop-row l = list_all (list_all (λ tricks. nat_le tricks 13)) (take l.row-index l.fn.tricks) ≡ true
