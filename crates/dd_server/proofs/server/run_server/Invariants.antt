use Rattle.dd_server.specs.ServeArgs.{terms_by}
use Rattle.dd_server.proofs.server.run_server.Given as goal

abbrev pub ghosts-serve_runs : goal.ghosts-serve_runs
ghosts-serve_runs g a = record { limits = a.server.now.limits; terms = terms_by a.server.now.args }
