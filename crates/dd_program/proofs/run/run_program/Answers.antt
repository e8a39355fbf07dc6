use Rattle.dd_streams.specs.Endings.{arguments_of, state_of, streams}
use Rattle.dd_program.proofs.Done.{serves-so}
use Rattle.dd_program.proofs.run.run_program.Goals as goal

pub returns-in-Err : goal.returns-in-Err
returns-in-Err g c =
    let input = state_of g.R.Read.remaining in
    let output = state_of g.O.Write.contents in
    let errors = state_of g.E.Write.contents in
    serves-so g.V.TellsRuns.way (g.V.TellsRuns.state c.args.watcher.now) (g.V.TellsRuns.state c.serve.new.watcher) (arguments_of c.args.arguments) c.args.is_terminal
    (streams (input c.args.reader.now) (output c.args.output.now) (errors c.args.errors.now))
    (streams (input c.run_streams.new.reader) (output c.run_streams.new.output) (errors c.run_streams.new.errors))
    (streams (input c.run_streams.new.reader) (output c.serve.new.output) (errors c.serve.new.errors))
    c.in-Err.field-0 c.serve.result c.in-Err.ensures (c.serve.ensures (input c.run_streams.new.reader))
