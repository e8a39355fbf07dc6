use Rattle.std.proofs.Common.{◌≡◌, ◌+◌, ◌≤◌, ◌++◌, length}
use Rattle.std.specs.Prelude.{map, filter}
use Rattle.arrayvec.specs.ArrayVec.{array_vec_len}
use Rattle.dd_equal.specs.SuitClasses.{is_top_rank, class_of_rank}
use Rattle.dd_equal.proofs.Walks.{IsRest}
use Rattle.dd_equal.proofs.partition.push_classes.Given as goal

abbrev pub invariant-tops : goal.invariant-tops
invariant-tops l = record {
  left : IsRest l.fn.own l.others l.rest;
  made : l.classes.items ++ map (class_of_rank l.suit l.fn.own l.others) (filter (is_top_rank l.fn.own l.others) l.rest) ≡ l.fn.classes.items ++ map (class_of_rank l.suit l.fn.own l.others) (filter (is_top_rank l.fn.own l.others) l.fn.own);
  room : array_vec_len l.classes + length l.rest ≤ array_vec_len l.fn.classes + length l.fn.own;
}

abbrev pub decreases-tops : goal.decreases-tops
decreases-tops l = length l.rest
