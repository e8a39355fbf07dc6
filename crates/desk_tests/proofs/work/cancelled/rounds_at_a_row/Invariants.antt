use Rattle.std.proofs.Common.{map}
use Rattle.once_cell.specs.Once.{cell_name}
use Rattle.desk_tests.proofs.work.cancelled.rounds_at_a_row.Given as goal

abbrev pub ghosts-rounds-J-Tokens : goal.ghosts-rounds-J-Tokens
ghosts-rounds-J-Tokens g a = record { counts = a.row.count.name; places = a.row.sum.name; parts = a.row.count.parts }

abbrev pub ghosts-rounds-J-Naming : goal.ghosts-rounds-J-Naming
ghosts-rounds-J-Naming g a = record { cells = map cell_name a.row.cells.items; limits = a.row.limits; all = a.row.count.parts }
