use Rattle.std.proofs.Common.{sym}
use Rattle.dd_session.specs.Ports.{PortOf, port_of}
use Rattle.dd_session.proofs.Answering.{answers_made, answers_refused, answers_state}
use Rattle.dd_session.proofs.asking.submit_and_fetch.Goals as goal

pub returns-in-Err : goal.returns-in-Err
returns-in-Err g c =
    let before : PortOf = port_of (g.P.BookPort.told c.args.port.now) (g.P.BookPort.refusals c.args.port.now) in
    let after : PortOf = port_of (g.P.BookPort.told c.ask.new.self) (g.P.BookPort.refusals c.ask.new.self) in
    answers_refused before after c.args.asked c.args.wait c.in-Err.fault c.requires c.in-Err.ensures

pub returns-in-Ok-fetch_within : goal.returns-in-Ok-fetch_within
returns-in-Ok-fetch_within g c =
    let before : PortOf = port_of (g.P.BookPort.told c.args.port.now) (g.P.BookPort.refusals c.args.port.now) in
    let between : PortOf = port_of (g.P.BookPort.told c.ask.new.self) (g.P.BookPort.refusals c.ask.new.self) in
    let after : PortOf = port_of (g.P.BookPort.told c.fetch_within.new.self) (g.P.BookPort.refusals c.fetch_within.new.self) in
    answers_state before between after c.args.asked c.args.wait c.in-Some.job c.in-Ok.made c.in-Ok-fetch_within.state c.requires (sym c.in-Some.ensures) c.in-Ok.ensures c.in-Ok-fetch_within.ensures.told c.in-Ok-fetch_within.ensures.ends

pub returns-in-Err-fetch_within : goal.returns-in-Err-fetch_within
returns-in-Err-fetch_within g c =
    let before : PortOf = port_of (g.P.BookPort.told c.args.port.now) (g.P.BookPort.refusals c.args.port.now) in
    let between : PortOf = port_of (g.P.BookPort.told c.ask.new.self) (g.P.BookPort.refusals c.ask.new.self) in
    let after : PortOf = port_of (g.P.BookPort.told c.fetch_within.new.self) (g.P.BookPort.refusals c.fetch_within.new.self) in
    answers_made before between after c.args.asked c.args.wait c.in-Some.job c.in-Ok.made c.in-Err-fetch_within.field-0 c.requires (sym c.in-Some.ensures) c.in-Ok.ensures c.in-Err-fetch_within.ensures.told
