use Rattle.std.proofs.Common.{map}
use Rattle.once_cell.specs.Once.{cell_name}
use Rattle.desk_tests.proofs.work.budgets.state_of.Given as goal

abbrev pub ghosts-state_at_a_row-J-Tokens : goal.ghosts-state_at_a_row-J-Tokens
ghosts-state_at_a_row-J-Tokens g a = record { counts = a.row.count.name; places = a.row.sum.name; parts = a.row.count.parts }

abbrev pub ghosts-state_at_a_row-J-Naming : goal.ghosts-state_at_a_row-J-Naming
ghosts-state_at_a_row-J-Naming g a = record { cells = map cell_name a.row.cells.items; limits = a.row.limits; all = a.row.count.parts }
