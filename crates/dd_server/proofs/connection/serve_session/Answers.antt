use Rattle.dd_server.proofs.Callers.{clients_pass}
use Rattle.dd_server.proofs.connection.serve_session.Goals as goal

pub returns : goal.returns
returns g c =
    clients_pass g.J.Naming.limits g.J.RunNaming.terms _ c.new-port.result.port c.serve_port.new.port.port c.into_pass.result c.new-port.ensures.port c.into_pass.ensures.begun c.into_pass.ensures.pass
    c.into_pass.ensures.told c.into_pass.ensures.clients c.serve_port.ensures.asked c.serve_port.ensures.leave
