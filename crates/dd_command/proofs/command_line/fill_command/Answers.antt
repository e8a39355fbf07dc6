use Rattle.std.proofs.Common.{codes, rules}
use Rattle.clap.specs.Words.{new_app}
use Rattle.dd_command.specs.Program.{tags_rule, budget_rule, shard_entries_rule, workers_rule}
use Rattle.dd_command.proofs.ServeWords.{Holds, adds, adds-last}
use Rattle.dd_command.proofs.command_line.fill_command.Goals as goal

pub returns : goal.returns
returns c =
    let bare : Holds (new_app (codes "pbn")) c.after_help.result = search rules in
    let one = adds (new_app (codes "pbn")) tags_rule _ c.tags_option.result c.in_ok-arg.field-0 c.in_ok-arg.ensures c.tags_option.ensures bare in
    let two = adds _ budget_rule _ c.result_budget_option.result c.in_ok-arg-2.field-0 c.in_ok-arg-2.ensures c.result_budget_option.ensures one in
    let three = adds _ shard_entries_rule _ c.file_entries_option.result c.in_ok-arg-3.field-0 c.in_ok-arg-3.ensures c.file_entries_option.ensures two in
    adds-last _ workers_rule _ c.file_workers_option.result c.arg-4.result c.arg-4.ensures c.file_workers_option.ensures three
