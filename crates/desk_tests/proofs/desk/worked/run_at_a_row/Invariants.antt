use Rattle.std.proofs.Common.{map}
use Rattle.once_cell.specs.Once.{cell_name}
use Rattle.desk_tests.proofs.desk.worked.run_at_a_row.Given as goal

abbrev pub ghosts-run-J-Tokens : goal.ghosts-run-J-Tokens
ghosts-run-J-Tokens g a = record { counts = a.row.count.name; places = a.row.sum.name; parts = a.row.count.parts }

abbrev pub ghosts-run-J-Naming : goal.ghosts-run-J-Naming
ghosts-run-J-Naming g a = record { cells = map cell_name a.row.cells.items; limits = a.row.limits; all = a.row.count.parts }
