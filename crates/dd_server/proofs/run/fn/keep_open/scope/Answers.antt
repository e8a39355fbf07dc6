use denote.Param.Send.{param_send}
use Rattle.dd_server.proofs.run.fn.keep_open.scope.Goals as goal

pub serve_clients-ended-requires-send-J : goal.serve_clients-ended-requires-send-J
serve_clients-ended-requires-send-J g c κs within = param_send 1 g.row.J c.requires.1.1.1.1.1.0
