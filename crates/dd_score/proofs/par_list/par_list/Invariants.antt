use Rattle.std.proofs.Common.{◌≡◌, ◌*◌, ◌≤◌}
use Rattle.arrayvec.specs.ArrayVec.{array_vec_len}
use Rattle.dd_score.specs.ParContracts.{contracts_below}
use Rattle.dd_score.proofs.par_list.par_list.Given as goal

abbrev pub invariant-loop-code : goal.invariant-loop-code
invariant-loop-code l = record {
  listed : l.contracts.items ≡ contracts_below l.worths.tricks l.worths.vulnerable l.sought.order l.sought.score l.code;
  short : array_vec_len l.contracts ≤ 2 * l.code;
}
