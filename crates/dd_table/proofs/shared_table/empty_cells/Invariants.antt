use Rattle.std.proofs.Common.{◌≡◌}
use Rattle.std.specs.Prelude.{vec_len}
use Rattle.dd_table.proofs.shared_table.empty_cells.Given as goal

abbrev pub invariant-loop : goal.invariant-loop
invariant-loop l = vec_len l.cells ≡ l.counter
