use Rattle.std.proofs.Common.{codes}
use Rattle.clap.specs.Words.{new_app}
use Rattle.dd_command.specs.Program.{listen_rule, workers_rule, shards_rule, shard_entries_rule, budget_rule, events_rule, idle_rule, websocket_rule, allow_stop_rule, explain_rule}
use Rattle.dd_command.proofs.ServeWords.{Holds, adds, adds-last}
use Rattle.dd_command.proofs.command_line.serve_command.Goals as goal

pub returns : goal.returns
returns c =
    let bare : Holds (new_app (codes "serve")) c.bare_serve.result = (c.bare_serve.ensures.app, c.bare_serve.ensures.top.1) in
    let one = adds (new_app (codes "serve")) listen_rule _ c.listen_option.result c.in_ok-arg.field-0 c.in_ok-arg.ensures c.listen_option.ensures bare in
    let two = adds _ workers_rule _ c.workers_option.result c.in_ok-arg-2.field-0 c.in_ok-arg-2.ensures c.workers_option.ensures one in
    let three = adds _ shards_rule _ c.shards_option.result c.in_ok-arg-3.field-0 c.in_ok-arg-3.ensures c.shards_option.ensures two in
    let four = adds _ shard_entries_rule _ c.shard_entries_option.result c.in_ok-arg-4.field-0 c.in_ok-arg-4.ensures c.shard_entries_option.ensures three in
    let five = adds _ budget_rule _ c.job_budget_option.result c.in_ok-arg-5.field-0 c.in_ok-arg-5.ensures c.job_budget_option.ensures four in
    let six = adds _ events_rule _ c.events_option.result c.in_ok-arg-6.field-0 c.in_ok-arg-6.ensures c.events_option.ensures five in
    let seven = adds _ idle_rule _ c.idle_option.result c.in_ok-arg-7.field-0 c.in_ok-arg-7.ensures c.idle_option.ensures six in
    let eight = adds _ websocket_rule _ c.websocket_flag.result c.in_ok-arg-8.field-0 c.in_ok-arg-8.ensures c.websocket_flag.ensures seven in
    let nine = adds _ allow_stop_rule _ c.allow_stop_flag.result c.in_ok-arg-9.field-0 c.in_ok-arg-9.ensures c.allow_stop_flag.ensures eight in
    adds-last _ explain_rule _ c.explain_flag.result c.arg-10.result c.arg-10.ensures c.explain_flag.ensures nine
