use Rattle.std.proofs.Common.{◌≡◌, ◌∙◌, Some, codes, map, string_bytes, ap, sym, []}
use Rattle.std.specs.Prelude.{option_map}
use Rattle.clap.specs.Words.{Text, app_of, found_of, rows_of, subcommand_name_of, subcommand_of}
use Rattle.dd_command.specs.Program.{program_app}
use Rattle.clap.specs.Faults.{fault_of, is_simple_and_free}
use Rattle.dd_command.specs.CommandLine.{Asks}
use Rattle.dd_command.proofs.Lines.{Asked}
use Rattle.dd_command.proofs.Asked.{asked-rows, asks-args, asks-fill, asks-one, asks-serve, fill-has, has-defaults, in-range, meets, serve-has, passed-up, refusal, some-same}
use Rattle.dd_command.proofs.Programs.{program_is_simple}
use Rattle.std.proofs.Common.{inl, inr, subst}
use Rattle.clap.specs.Kinds.{HasKind}
use Rattle.dd_command.proofs.command_line.read_args.Goals as goal
use Rattle.dd_command.proofs.command_line.read_args.Goals.{After-unwrap, After-solve_args}

pub returns-in_err-matches-clause-refused : goal.returns-in_err-matches-clause-refused
returns-in_err-matches-clause-refused c =
    let is = c.in_ok-program.ensures in
    let arguments = map string_bytes c.args.arguments.now in
    let kinds = c.in_err-matches.ensures.kinds (ap is_simple_and_free is ∙ program_is_simple) in
    passed-up c.from_residual-in_err-matches.result c.in_err-matches.field-0.0 _ c.from_residual-in_err-matches.ensures.1
    (refusal (app_of c.in_ok-program.field-0) arguments c.in_err-matches.field-0.0 is kinds)

-- the parser let the line through without a fault
free : (c : After-unwrap) → fault_of (app_of c.in_ok-program.field-0) (map string_bytes c.args.arguments.now) ≡ []
free c = c.in_ok-matches.ensures.kinds (ap is_simple_and_free c.in_ok-program.ensures ∙ program_is_simple)

-- the rows that `solve` got are those that the line asks for
asked : (c : After-unwrap) → c.unwrap.result.0.now ≡ codes "solve" → Asked (map string_bytes c.args.arguments.now) (rows_of (found_of c.unwrap.result.1.now))
asked c named =
    asked-rows (app_of c.in_ok-program.field-0) (map string_bytes c.args.arguments.now) c.in_ok-matches.matches (rows_of (found_of c.unwrap.result.1.now)) c.in_ok-program.ensures
    (free c) c.in_ok-matches.ensures.matches (sym c.subcommand.ensures.name ∙ ap (option_map (λ p. p.0.now)) c.unwrap.ensures ∙ ap Some named)
    (sym (ap (option_map (λ p. rows_of (found_of p.1.now))) c.unwrap.ensures) ∙ c.subcommand.ensures.rows)

pub solve_args-requires : goal.solve_args-requires
solve_args-requires c = (asked (goal.at.solve_args-requires c).After-unwrap c.in-solve.is).numbers

-- the rows that `serve` got are those of the line
serves : (c : After-unwrap) → c.unwrap.result.0.now ≡ codes "serve"
    → (fault_of program_app (map string_bytes c.args.arguments.now) ≡ []) × (subcommand_of program_app (map string_bytes c.args.arguments.now) ≡ Some (codes "serve", rows_of (found_of c.unwrap.result.1.now)))
serves c named =
    serve-has (app_of c.in_ok-program.field-0) (map string_bytes c.args.arguments.now) c.in_ok-matches.matches (rows_of (found_of c.unwrap.result.1.now)) c.in_ok-program.ensures
    (free c) c.in_ok-matches.ensures.matches (sym c.subcommand.ensures.name ∙ ap (option_map (λ p. p.0.now)) c.unwrap.ensures ∙ ap Some named)
    (sym (ap (option_map (λ p. rows_of (found_of p.1.now))) c.unwrap.ensures) ∙ c.subcommand.ensures.rows)

-- the rows that `pbn` got are those of the line
fills : (c : After-unwrap) → c.unwrap.result.0.now ≡ codes "pbn"
    → (fault_of program_app (map string_bytes c.args.arguments.now) ≡ []) × (subcommand_of program_app (map string_bytes c.args.arguments.now) ≡ Some (codes "pbn", rows_of (found_of c.unwrap.result.1.now)))
fills c named =
    fill-has (app_of c.in_ok-program.field-0) (map string_bytes c.args.arguments.now) c.in_ok-matches.matches (rows_of (found_of c.unwrap.result.1.now)) c.in_ok-program.ensures
    (free c) c.in_ok-matches.ensures.matches (sym c.subcommand.ensures.name ∙ ap (option_map (λ p. p.0.now)) c.unwrap.ensures ∙ ap Some named)
    (sym (ap (option_map (λ p. rows_of (found_of p.1.now))) c.unwrap.ensures) ∙ c.subcommand.ensures.rows)

pub unreachable-requires : goal.unreachable-requires
unreachable-requires c =
    let named = meets (app_of c.in_ok-program.field-0) (map string_bytes c.args.arguments.now) c.in_ok-matches.matches c.in_ok-program.ensures
    (free (goal.at.unreachable-requires c).After-unwrap) c.in_ok-matches.ensures.matches in
    let name : (text : Text) → subcommand_name_of c.in_ok-matches.matches ≡ Some text → Some c.unwrap.result.0.now ≡ Some text =
    λ text is. sym (ap (option_map (λ p. p.0.now)) c.unwrap.ensures) ∙ c.subcommand.ensures.name ∙ is in
    elim named [
      | inl is ↦ c.in_default.not-solve (some-same (name (codes "solve") is))
      | inr (inl is) ↦ c.in_default.not-serve (some-same (name (codes "serve") is))
      | inr (inr is) ↦ c.in_default.not-pbn (some-same (name (codes "pbn") is))
    ]

pub returns-in_err-matches-clause-kinds : goal.returns-in_err-matches-clause-kinds
returns-in_err-matches-clause-kinds c =
    let is = c.in_ok-program.ensures in
    let arguments = map string_bytes c.args.arguments.now in
    let kinds = c.in_err-matches.ensures.kinds (ap is_simple_and_free is ∙ program_is_simple) in
    passed-up c.from_residual-in_err-matches.result c.in_err-matches.field-0.0 _ c.from_residual-in_err-matches.ensures.1
    (subst (λ a. HasKind (fault_of a arguments) c.in_err-matches.field-0.0) is kinds)

-- so the arguments are what the line asks for
solved : (c : After-solve_args) → Asked (map string_bytes c.args.arguments.now) (rows_of (found_of c.unwrap.result.1.now)) → Asks (map string_bytes c.args.arguments.now) c.solve_args.result
solved c is = asks-args (map string_bytes c.args.arguments.now) (rows_of (found_of c.unwrap.result.1.now)) c.solve_args.result is c.solve_args.ensures

pub returns-in-solve-clause-asked : goal.returns-in-solve-clause-asked
returns-in-solve-clause-asked c =
    solved (goal.at.returns-in-solve-clause-asked c).After-solve_args (asked (goal.at.returns-in-solve-clause-asked c).After-unwrap c.in-solve.is)

pub returns-in-solve-clause-only : goal.returns-in-solve-clause-only
returns-in-solve-clause-only c =
    λ other asks-other. asks-one (map string_bytes c.args.arguments.now) c.solve_args.result other (solved (goal.at.returns-in-solve-clause-only c).After-solve_args (asked (goal.at.returns-in-solve-clause-only c).After-unwrap c.in-solve.is)) asks-other

pub returns-in-solve-clause-in_range : goal.returns-in-solve-clause-in_range
returns-in-solve-clause-in_range c =
    in-range (map string_bytes c.args.arguments.now) c.solve_args.result (solved (goal.at.returns-in-solve-clause-in_range c).After-solve_args (asked (goal.at.returns-in-solve-clause-in_range c).After-unwrap c.in-solve.is))

pub returns-in-solve-clause-defaults : goal.returns-in-solve-clause-defaults
returns-in-solve-clause-defaults c =
    has-defaults (map string_bytes c.args.arguments.now) c.solve_args.result (solved (goal.at.returns-in-solve-clause-defaults c).After-solve_args (asked (goal.at.returns-in-solve-clause-defaults c).After-unwrap c.in-solve.is))

pub returns-in-serve-clause-asked : goal.returns-in-serve-clause-asked
returns-in-serve-clause-asked c =
    asks-serve (map string_bytes c.args.arguments.now) (rows_of (found_of c.unwrap.result.1.now)) c.in_ok-serve_args-in-serve.field-0 (serves (goal.at.returns-in-serve-clause-asked c).After-unwrap c.in-serve.is) c.in_ok-serve_args-in-serve.ensures

pub returns-in-serve-clause-only : goal.returns-in-serve-clause-only
returns-in-serve-clause-only c =
    λ other asks-other. asks-one (map string_bytes c.args.arguments.now) c.in_ok-serve_args-in-serve.field-0 other (asks-serve (map string_bytes c.args.arguments.now) (rows_of (found_of c.unwrap.result.1.now)) c.in_ok-serve_args-in-serve.field-0 (serves (goal.at.returns-in-serve-clause-only c).After-unwrap c.in-serve.is) c.in_ok-serve_args-in-serve.ensures) asks-other

pub returns-in-serve-clause-in_range : goal.returns-in-serve-clause-in_range
returns-in-serve-clause-in_range c =
    in-range (map string_bytes c.args.arguments.now) c.in_ok-serve_args-in-serve.field-0 (asks-serve (map string_bytes c.args.arguments.now) (rows_of (found_of c.unwrap.result.1.now)) c.in_ok-serve_args-in-serve.field-0 (serves (goal.at.returns-in-serve-clause-in_range c).After-unwrap c.in-serve.is) c.in_ok-serve_args-in-serve.ensures)

pub returns-in-serve-clause-defaults : goal.returns-in-serve-clause-defaults
returns-in-serve-clause-defaults c =
    has-defaults (map string_bytes c.args.arguments.now) c.in_ok-serve_args-in-serve.field-0 (asks-serve (map string_bytes c.args.arguments.now) (rows_of (found_of c.unwrap.result.1.now)) c.in_ok-serve_args-in-serve.field-0 (serves (goal.at.returns-in-serve-clause-defaults c).After-unwrap c.in-serve.is) c.in_ok-serve_args-in-serve.ensures)

pub returns-in-pbn-clause-asked : goal.returns-in-pbn-clause-asked
returns-in-pbn-clause-asked c =
    asks-fill (map string_bytes c.args.arguments.now) (rows_of (found_of c.unwrap.result.1.now)) c.in_ok-fill_args-in-pbn.field-0 (fills (goal.at.returns-in-pbn-clause-asked c).After-unwrap c.in-pbn.is) c.in_ok-fill_args-in-pbn.ensures

pub returns-in-pbn-clause-only : goal.returns-in-pbn-clause-only
returns-in-pbn-clause-only c =
    λ other asks-other. asks-one (map string_bytes c.args.arguments.now) c.in_ok-fill_args-in-pbn.field-0 other (asks-fill (map string_bytes c.args.arguments.now) (rows_of (found_of c.unwrap.result.1.now)) c.in_ok-fill_args-in-pbn.field-0 (fills (goal.at.returns-in-pbn-clause-only c).After-unwrap c.in-pbn.is) c.in_ok-fill_args-in-pbn.ensures) asks-other

pub returns-in-pbn-clause-in_range : goal.returns-in-pbn-clause-in_range
returns-in-pbn-clause-in_range c =
    in-range (map string_bytes c.args.arguments.now) c.in_ok-fill_args-in-pbn.field-0 (asks-fill (map string_bytes c.args.arguments.now) (rows_of (found_of c.unwrap.result.1.now)) c.in_ok-fill_args-in-pbn.field-0 (fills (goal.at.returns-in-pbn-clause-in_range c).After-unwrap c.in-pbn.is) c.in_ok-fill_args-in-pbn.ensures)

pub returns-in-pbn-clause-defaults : goal.returns-in-pbn-clause-defaults
returns-in-pbn-clause-defaults c =
    has-defaults (map string_bytes c.args.arguments.now) c.in_ok-fill_args-in-pbn.field-0 (asks-fill (map string_bytes c.args.arguments.now) (rows_of (found_of c.unwrap.result.1.now)) c.in_ok-fill_args-in-pbn.field-0 (fills (goal.at.returns-in-pbn-clause-defaults c).After-unwrap c.in-pbn.is) c.in_ok-fill_args-in-pbn.ensures)
