use Rattle.dd_session.specs.Ports.{PortOf, port_of}
use Rattle.dd_session.proofs.Answering.{answers_cancel, answers_fetch, answers_stop}
use Rattle.dd_session.proofs.asking.ask_and_wait.Goals as goal

pub returns-in-Cancel : goal.returns-in-Cancel
returns-in-Cancel g c =
    let before : PortOf = port_of (g.P.BookPort.told c.args.port.now) (g.P.BookPort.refusals c.args.port.now) in
    let after : PortOf = port_of (g.P.BookPort.told c.ask.new.self) (g.P.BookPort.refusals c.ask.new.self) in
    rw c.in-Cancel.is (answers_cancel before after c.args.wait c.in-Cancel.job c.ask.result c.ask.ensures)

pub returns-in-Fetch : goal.returns-in-Fetch
returns-in-Fetch g c =
    let before : PortOf = port_of (g.P.BookPort.told c.args.port.now) (g.P.BookPort.refusals c.args.port.now) in
    let after : PortOf = port_of (g.P.BookPort.told c.fetch_within.new.self) (g.P.BookPort.refusals c.fetch_within.new.self) in
    rw c.in-Fetch.is (answers_fetch before after c.args.wait c.in-Fetch.job c.fetch_within.result c.fetch_within.ensures.told c.fetch_within.ensures.ends)

pub returns-in-Stop : goal.returns-in-Stop
returns-in-Stop g c =
    let before : PortOf = port_of (g.P.BookPort.told c.args.port.now) (g.P.BookPort.refusals c.args.port.now) in
    let after : PortOf = port_of (g.P.BookPort.told c.ask-in-Stop.new.self) (g.P.BookPort.refusals c.ask-in-Stop.new.self) in
    rw c.in-Stop.is (answers_stop before after c.args.wait c.ask-in-Stop.result c.ask-in-Stop.ensures)
