use Rattle.clap.specs.Words.{found_of, one_of, rows_of}
use Rattle.clap.proofs.WalkLemmas.{one_text-rows}
use Rattle.std.proofs.Common.{◌∙◌}
use Rattle.std.specs.Str.Parse.{ExplainsUnsignedError, HasUnsignedDigitsIfOk, ParsesUnsigned}
use Rattle.dd_command.proofs.ServeWords.{given-read}
use Rattle.dd_command.proofs.command_line.number_of.Goals as goal

pub returns : goal.returns
returns c =
    let found = found_of c.args.options.now in
    given-read _ (λ text r. ParsesUnsigned 32 10 text r × ExplainsUnsignedError 10 text r × HasUnsignedDigitsIfOk text r) 32 (one_of c.args.option.now (rows_of found)) c.get_one.result
    (λ e. c.get_one.ensures.none (one_text-rows found c.args.option.now ∙ e)) (λ t e. c.get_one.ensures.value t (one_text-rows found c.args.option.now ∙ e)) (λ u x g. g.0)
