use Rattle.std.proofs.Common.{map}
use Rattle.once_cell.specs.Once.{cell_name}
use Rattle.desk_tests.proofs.desk.waits.meet_at_a_row.Given as goal

abbrev pub ghosts-meet-J-Tokens : goal.ghosts-meet-J-Tokens
ghosts-meet-J-Tokens g a = record { counts = a.row.count.name; places = a.row.sum.name; parts = a.row.count.parts }

abbrev pub ghosts-meet-J-Naming : goal.ghosts-meet-J-Naming
ghosts-meet-J-Naming g a = record { cells = map cell_name a.row.cells.items; limits = a.row.limits; all = a.row.count.parts }
