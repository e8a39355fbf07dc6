use Rattle.std.proofs.Common.{map}
use Rattle.once_cell.specs.Once.{cell_name}
use Rattle.desk_tests.proofs.work.short.works_at_a_row.Given as goal

abbrev pub ghosts-works-J-Tokens : goal.ghosts-works-J-Tokens
ghosts-works-J-Tokens g a = record { counts = a.row.count.name; places = a.row.sum.name; parts = a.row.count.parts }

abbrev pub ghosts-works-J-Naming : goal.ghosts-works-J-Naming
ghosts-works-J-Naming g a = record { cells = map cell_name a.row.cells.items; limits = a.row.limits; all = a.row.count.parts }
