use Rattle.std.proofs.Common.{map}
use Rattle.once_cell.specs.Once.{cell_name}
use Rattle.server_tests.proofs.session.leaving.left_at_a_row.Given as goal

abbrev pub ghosts-left-J-Tokens : goal.ghosts-left-J-Tokens
ghosts-left-J-Tokens g a = record { counts = a.row.count.name; places = a.row.sum.name; parts = a.row.count.parts }

abbrev pub ghosts-left-J-Naming : goal.ghosts-left-J-Naming
ghosts-left-J-Naming g a = record { cells = map cell_name a.row.cells.items; limits = a.row.limits; all = a.row.count.parts }
