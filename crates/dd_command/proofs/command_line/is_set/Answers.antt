use Rattle.std.proofs.Common.{◌∙◌}
use Rattle.clap.specs.Words.{found_of}
use Rattle.clap.proofs.WalkLemmas.{first_value-rows}
use Rattle.dd_command.proofs.ServeWords.{set-by, unset-by}
use Rattle.dd_command.proofs.command_line.is_set.Goals as goal

pub returns-in-Some : goal.returns-in-Some
returns-in-Some c = set-by c.get_str.result _ c.in-Some.text c.eq.result (c.get_str.ensures ∙ first_value-rows (found_of c.args.options.now) c.args.flag.now) c.in-Some.is c.eq.ensures

pub returns-in-None : goal.returns-in-None
returns-in-None c = unset-by c.get_str.result _ (c.get_str.ensures ∙ first_value-rows (found_of c.args.options.now) c.args.flag.now) c.in-None.is
