use Rattle.std.proofs.Common.{map}
use Rattle.once_cell.specs.Once.{cell_name}
use Rattle.desk_tests.proofs.work.ahead.known_at_a_row.Given as goal

abbrev pub ghosts-known_after_one-J-Tokens : goal.ghosts-known_after_one-J-Tokens
ghosts-known_after_one-J-Tokens g a = record { counts = a.row.count.name; places = a.row.sum.name; parts = a.row.count.parts }

abbrev pub ghosts-known_after_one-J-Naming : goal.ghosts-known_after_one-J-Naming
ghosts-known_after_one-J-Naming g a = record { cells = map cell_name a.row.cells.items; limits = a.row.limits; all = a.row.count.parts }
