use Rattle.dd_streams.specs.Endings.{arguments_of, state_of, streams}
use Rattle.dd_streams.proofs.DoneUntil.{runs-without}
use Rattle.dd_streams.proofs.run.run_without_server.Goals as goal

pub returns : goal.returns
returns g c =
    let input = state_of g.R.Read.remaining in
    let output = state_of g.O.Write.contents in
    let errors = state_of g.E.Write.contents in
    runs-without (arguments_of c.args.arguments) c.args.is_terminal (streams (input c.args.reader.now) (output c.args.output.now) (errors c.args.errors.now))
    (input c.run_streams-run.new.reader) (output c.run_streams-run.new.output) (errors c.run_streams-run.new.errors) (errors c.end_without_server.new.errors)
    c.run_streams-run.result c.end_without_server.result c.run_streams-run.ensures c.end_without_server.ensures
