use Rattle.std.proofs.Common.{◌∙◌, codes, refl}
use Rattle.clap.specs.Words.{found_of}
use Rattle.clap.proofs.WalkLemmas.{first_value-rows}
use Rattle.dd_command.proofs.ServeWords.{text-or}
use Rattle.dd_command.proofs.command_line.fill_args.Goals as goal

pub returns : goal.returns
returns c = (
  (c.number_of.result, c.number_of.ensures, c.number_in.ensures),
  (c.limit_of.result, c.limit_of.ensures, c.limit_up_to.ensures),
  c.in_ok-from_str.ensures.ok ∙ text-or c.get_str.result _ _ c.unwrap_or.result (c.get_str.ensures ∙ first_value-rows (found_of c.args.options.now) (codes "tags")) refl c.unwrap_or.ensures,
  (c.number_of-2.result, c.number_of-2.ensures, c.number_in-2.ensures),
)
