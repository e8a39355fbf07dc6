use Rattle.std.proofs.Common.{map}
use Rattle.once_cell.specs.Once.{cell_name}
use Rattle.dd_server.proofs.run.run.Given as goal

abbrev pub ghosts-end_of_run-J-Tokens : goal.ghosts-end_of_run-J-Tokens
ghosts-end_of_run-J-Tokens g a = record { counts = a.row.count.name; places = a.row.sum.name; parts = a.row.count.parts }

abbrev pub ghosts-end_of_run-J-Naming : goal.ghosts-end_of_run-J-Naming
ghosts-end_of_run-J-Naming g a = record { cells = map cell_name a.row.cells.items; limits = a.row.limits; all = a.row.count.parts }

abbrev pub ghosts-end_of_run-J-RunNaming : goal.ghosts-end_of_run-J-RunNaming
ghosts-end_of_run-J-RunNaming g a = record { terms = g.L.RunLimits.terms }
