use Rattle.std.proofs.Common.{◌≡◌, rules}
use Rattle.clap.specs.Words.{app_of}
use Rattle.dd_command.specs.Program.{bare_app, fill_app, serve_app, solve_app}
use Rattle.dd_command.proofs.ServeWords.{adds-command, adds-last-command}
use Rattle.dd_command.proofs.command_line.program.Goals as goal

pub returns : goal.returns
returns c =
    let bare : app_of c.subcommand_required.result ≡ bare_app = search rules in
    let one = adds-command bare_app solve_app.top _ _ c.in_ok-subcommand.field-0 c.in_ok-subcommand.ensures c.in_ok-solve_command.ensures bare in
    let two = adds-command _ serve_app.top _ _ c.in_ok-subcommand-2.field-0 c.in_ok-subcommand-2.ensures c.in_ok-serve_command.ensures one in
    adds-last-command _ fill_app.top _ _ c.subcommand-3.result c.subcommand-3.ensures c.in_ok-fill_command.ensures two
