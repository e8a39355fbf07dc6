use Rattle.std.proofs.Common.{map}
use Rattle.once_cell.specs.Once.{cell_name}
use Rattle.desk_tests.proofs.desk.waits.in_time_at_a_row.Given as goal

abbrev pub ghosts-in_time-J-Tokens : goal.ghosts-in_time-J-Tokens
ghosts-in_time-J-Tokens g a = record { counts = a.row.count.name; places = a.row.sum.name; parts = a.row.count.parts }

abbrev pub ghosts-in_time-J-Naming : goal.ghosts-in_time-J-Naming
ghosts-in_time-J-Naming g a = record { cells = map cell_name a.row.cells.items; limits = a.row.limits; all = a.row.count.parts }
