use Rattle.std.proofs.Common.{map}
use Rattle.once_cell.specs.Once.{cell_name}
use Rattle.desk_tests.proofs.work.cancelled.looks_at_a_row.Given as goal

abbrev pub ghosts-looks-J-Tokens : goal.ghosts-looks-J-Tokens
ghosts-looks-J-Tokens g a = record { counts = a.row.count.name; places = a.row.sum.name; parts = a.row.count.parts }

abbrev pub ghosts-looks-J-Naming : goal.ghosts-looks-J-Naming
ghosts-looks-J-Naming g a = record { cells = map cell_name a.row.cells.items; limits = a.row.limits; all = a.row.count.parts }
