use Rattle.std.proofs.Common.{codes, rules}
use Rattle.clap.specs.Words.{new_app}
use Rattle.dd_command.specs.Program.{budget_rule, entries_rule, line_workers_rule, explain_rule}
use Rattle.dd_command.proofs.ServeWords.{Holds, adds, adds-last}
use Rattle.dd_command.proofs.command_line.solve_command.Goals as goal

pub returns : goal.returns
returns c =
    let bare : Holds (new_app (codes "solve")) c.after_help.result = search rules in
    let one = adds (new_app (codes "solve")) budget_rule _ c.budget_option.result c.in_ok-arg.field-0 c.in_ok-arg.ensures c.budget_option.ensures bare in
    let two = adds _ entries_rule _ c.entries_option.result c.in_ok-arg-2.field-0 c.in_ok-arg-2.ensures c.entries_option.ensures one in
    let three = adds _ line_workers_rule _ c.line_workers_option.result c.in_ok-arg-3.field-0 c.in_ok-arg-3.ensures c.line_workers_option.ensures two in
    adds-last _ explain_rule _ c.explain_flag.result c.arg-4.result c.arg-4.ensures c.explain_flag.ensures three
