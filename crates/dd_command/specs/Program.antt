-- To be believed: the program's command, as `clap` sees it.
use Rattle.std.specs.Prelude.{◌≡◌, ◌<◌, ◌^◌, ℕ, true, false, pos, List, [], ◌∷◌, Option, Some, IfSome, IsSome, option_map, codes}
use Rattle.std.specs.Str.Parse.{IsNumeral, digits_value, without_leading_plus}
use Rattle.dd_limits.specs.declared.limits.TheConstants.{MOST_EVENTS, MOST_SHAPES, MOST_SHARDS}
use Rattle.clap.specs.Words.{App, Row, Rule, Shape, new_app, new_rule, one_of, rule_of, shape_of, with_rule, with_subcommand}
use Rattle.clap.specs.declared.builder.arg.Arg.{Arg}
use Rattle.clap.specs.declared.builder.command.Command.{Command}
use Rattle.clap.specs.declared.builder.command.Command.TheViews.{out-Command}
use Rattle.clap.specs.declared.builder.value_parser.ValueParser.TheVariants.{NonEmptyString, Signed, Unsigned}
use Rattle.clap.specs.declared.builder.action.ArgAction.TheVariants.{SetTrue}
use Rattle.dd_command.specs.declared.command_line.TheConstants.{LEAST_EVENTS, MOST_IDLE, MOST_WORKERS}

-- `--budget N`
abbrev pub budget_rule : Rule
budget_rule = record (new_rule (codes "budget")) {
  long = Some (codes "budget");
  value_names = 1;
  parser = Some (Unsigned 0 1000000000000);
}

-- `--entries N`
abbrev pub entries_rule : Rule
entries_rule = record (new_rule (codes "entries")) {
  long = Some (codes "entries");
  value_names = 1;
  parser = Some (Signed (pos 1) (pos MOST_SHAPES));
  defaults = codes "4096" ∷ [];
}

-- `--workers N` of `solve`
abbrev pub line_workers_rule : Rule
line_workers_rule = record (new_rule (codes "workers")) {
  long = Some (codes "workers");
  value_names = 1;
  parser = Some (Signed (pos 1) (pos MOST_WORKERS));
  defaults = codes "1" ∷ [];
}

-- `--explain`
abbrev pub explain_rule : Rule
explain_rule = record (new_rule (codes "explain")) { long = Some (codes "explain"); action = Some SetTrue }

-- `solve` with its options
abbrev pub solve_app : App
solve_app = with_rule (with_rule (with_rule (with_rule (new_app (codes "solve")) budget_rule) entries_rule) line_workers_rule) explain_rule

-- `--listen ADDR`
abbrev pub listen_rule : Rule
listen_rule = record (new_rule (codes "listen")) { long = Some (codes "listen"); value_names = 1; required = true }

-- `--workers N`
abbrev pub workers_rule : Rule
workers_rule = record (new_rule (codes "workers")) {
  long = Some (codes "workers");
  value_names = 1;
  parser = Some (Signed (pos 1) (pos MOST_WORKERS));
}

-- `--shards N`
abbrev pub shards_rule : Rule
shards_rule = record (new_rule (codes "shards")) {
  long = Some (codes "shards");
  value_names = 1;
  parser = Some (Signed (pos 1) (pos MOST_SHARDS));
}

-- `--entries N` of `serve`
abbrev pub shard_entries_rule : Rule
shard_entries_rule = record (new_rule (codes "entries")) {
  long = Some (codes "entries");
  value_names = 1;
  parser = Some (Signed (pos 1) (pos MOST_SHAPES));
}

-- `--events N`
abbrev pub events_rule : Rule
events_rule = record (new_rule (codes "events")) {
  long = Some (codes "events");
  value_names = 1;
  parser = Some (Signed (pos LEAST_EVENTS) (pos MOST_EVENTS));
}

-- `--idle SECONDS`
abbrev pub idle_rule : Rule
idle_rule = record (new_rule (codes "idle")) {
  long = Some (codes "idle");
  value_names = 1;
  parser = Some (Unsigned 0 MOST_IDLE);
}

-- `--websocket`
abbrev pub websocket_rule : Rule
websocket_rule = record (new_rule (codes "websocket")) { long = Some (codes "websocket"); action = Some SetTrue }

-- `--allow-stop`
abbrev pub allow_stop_rule : Rule
allow_stop_rule = record (new_rule (codes "allow-stop")) { long = Some (codes "allow-stop"); action = Some SetTrue }

-- `serve` with its options
abbrev pub serve_app : App
serve_app =
    with_rule (with_rule (with_rule (with_rule (with_rule (with_rule (with_rule (with_rule (with_rule (with_rule (new_app (codes "serve")) listen_rule) workers_rule) shards_rule) shard_entries_rule) budget_rule) events_rule) idle_rule) websocket_rule)
    allow_stop_rule) explain_rule

-- `--tags NAME,..`
abbrev pub tags_rule : Rule
tags_rule = record (new_rule (codes "tags")) { long = Some (codes "tags"); value_names = 1; parser = Some NonEmptyString }

-- `pbn` with its options
abbrev pub fill_app : App
fill_app = with_rule (with_rule (with_rule (with_rule (new_app (codes "pbn")) tags_rule) budget_rule) shard_entries_rule) workers_rule

-- the program without a subcommand, which it wants
abbrev pub bare_app : App
bare_app = record { top = record (new_app (codes "ddserve")).top { has_version = true; subcommand_required = true }; subs = [] }

-- the program
abbrev pub program_app : App
program_app = with_subcommand (with_subcommand (with_subcommand bare_app solve_app.top) serve_app.top) fill_app.top

-- the argument is that of the rule, at its own command alone
abbrev pub IsOption : Arg → Rule → Type 0
IsOption arg rule = (rule_of arg ≡ rule) × (arg.global ≡ false)

-- the command is that of the shape, and no argument of it is global
abbrev pub IsSubcommand : Command → Shape → Type 0
IsSubcommand command shape = (shape_of command ≡ shape) × ((out-Command command).has_globals ≡ false)

-- the number that the option's text writes in decimal digits
abbrev pub number_of : List ℕ → List Row → Option ℕ
number_of option rows = option_map (λ text. digits_value 10 (without_leading_plus text)) (one_of option rows)

-- the text writes a number of so many bits
abbrev pub FitsBits : ℕ → List ℕ → Type 0
FitsBits bits text = IsNumeral 10 (without_leading_plus text) × (digits_value 10 (without_leading_plus text) < 2 ^ bits)

-- the options are there as far as they must be, and their texts are numbers of their types
abbrev pub HasNumbers : List Row → Type 0
HasNumbers rows = IfSome (one_of (codes "budget") rows) (FitsBits 64)
    × IsSome (one_of (codes "entries") rows) × IfSome (one_of (codes "entries") rows) (FitsBits 32)
    × IsSome (one_of (codes "workers") rows) × IfSome (one_of (codes "workers") rows) (FitsBits 32)
