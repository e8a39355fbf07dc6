use Rattle.std.proofs.Common.{◌≡◌, ◌∙◌, codes, sym, subst}
use Rattle.std.specs.Prelude.{IsSome, option_map}
use Rattle.std.specs.Str.Parse.{ExplainsUnsignedError, HasUnsignedDigitsIfOk, ParsesUnsigned}
use Rattle.clap.specs.Words.{found_of, one_of, rows_of}
use Rattle.clap.proofs.WalkLemmas.{one_text-rows}
use Rattle.dd_command.specs.declared.command_line.Args.TheVariants.{Solve}
use Rattle.dd_command.proofs.Numbers.{is_some-mapped, option-read, value_of}
use Rattle.dd_command.proofs.command_line.solve_args.Goals as goal
use Rattle.dd_command.proofs.command_line.solve_args.Goals.{After-get_one-2, After-get_one-3}

-- the getter gives the number of the entries
entries-read : (c : After-get_one-2) → c.get_one-2.result ≡ option_map value_of (one_of (codes "entries") (rows_of (found_of c.args.options.now)))
entries-read c =
    let found = found_of c.args.options.now in
    option-read _ (λ text r. ParsesUnsigned 32 10 text r × ExplainsUnsignedError 10 text r × HasUnsignedDigitsIfOk text r) 32 (one_of (codes "entries") (rows_of found)) c.get_one-2.result
    (λ e. c.get_one-2.ensures.none (one_text-rows found (codes "entries") ∙ e)) (λ t e. c.get_one-2.ensures.value t (one_text-rows found (codes "entries") ∙ e)) (λ u x g. g.0) c.requires.2

-- and that of the workers
workers-read : (c : After-get_one-3) → c.get_one-3.result ≡ option_map value_of (one_of (codes "workers") (rows_of (found_of c.args.options.now)))
workers-read c =
    let found = found_of c.args.options.now in
    option-read _ (λ text r. ParsesUnsigned 32 10 text r × ExplainsUnsignedError 10 text r × HasUnsignedDigitsIfOk text r) 32 (one_of (codes "workers") (rows_of found)) c.get_one-3.result
    (λ e. c.get_one-3.ensures.none (one_text-rows found (codes "workers") ∙ e)) (λ t e. c.get_one-3.ensures.value t (one_text-rows found (codes "workers") ∙ e)) (λ u x g. g.0) c.requires.4

pub unwrap-requires : goal.unwrap-requires
unwrap-requires c =
    subst IsSome (sym (entries-read c)) (is_some-mapped value_of (one_of (codes "entries") (rows_of (found_of c.args.options.now))) c.requires.1)

pub unwrap-requires-2 : goal.unwrap-requires-2
unwrap-requires-2 c =
    subst IsSome (sym (workers-read c)) (is_some-mapped value_of (one_of (codes "workers") (rows_of (found_of c.args.options.now))) c.requires.3)

pub returns : goal.returns
returns c =
    let found = found_of c.args.options.now in
    let budget = option-read _ (λ text r. ParsesUnsigned 64 10 text r × ExplainsUnsignedError 10 text r × HasUnsignedDigitsIfOk text r) 64 (one_of (codes "budget") (rows_of found)) c.get_one.result
    (λ e. c.get_one.ensures.none (one_text-rows found (codes "budget") ∙ e)) (λ t e. c.get_one.ensures.value t (one_text-rows found (codes "budget") ∙ e)) (λ u x g. g.0) c.requires.0 in (
      c.unwrap.result,
      c.unwrap-2.result,
      sym (entries-read (goal.at.returns c).After-get_one-2) ∙ c.unwrap.ensures,
      sym (workers-read (goal.at.returns c).After-get_one-3) ∙ c.unwrap-2.ensures,
      (λ i. Solve (budget i) c.unwrap.result c.unwrap-2.result (c.is_set.ensures i)),
    )
