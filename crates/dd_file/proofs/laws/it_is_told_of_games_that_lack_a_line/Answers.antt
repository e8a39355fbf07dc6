use Rattle.dd_file.specs.Filled.{asks}
use Rattle.dd_file.specs.declared.mode.Mode.TheVariants.{Head}
use Rattle.dd_file.specs.Games.{first_state}
use Rattle.dd_file.specs.Told.{first_notes}
use Rattle.dd_file.proofs.AgainAnswers.{all-may}
use Rattle.dd_file.proofs.AgainAsked.{sound-first}
use Rattle.dd_file.proofs.ToldLacking.{told-lacking}
use Rattle.dd_file.proofs.laws.it_is_told_of_games_that_lack_a_line.Goals as goal

pub returns : goal.returns
returns c = λ wanted answers file are. told-lacking wanted file 0 Head first_state first_notes answers sound-first (all-may (asks wanted file) answers are)
