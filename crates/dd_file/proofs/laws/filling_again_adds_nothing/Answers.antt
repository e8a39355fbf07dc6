use Rattle.dd_file.specs.declared.mode.Mode.TheVariants.{Head}
use Rattle.dd_file.specs.Filled.{filled}
use Rattle.dd_file.specs.Games.{first_state}
use Rattle.dd_file.proofs.AgainAnswers.{all-answered}
use Rattle.dd_file.proofs.AgainAsked.{asks-filled, filled-same, none-all, sound-first}
use Rattle.dd_file.proofs.laws.filling_again_adds_nothing.Goals as goal

pub returns : goal.returns
returns c =
    record {
      none_asks = λ wanted answers file are. none-all _ (asks-filled wanted file 0 Head first_state answers sound-first (all-answered _ answers are));
      none_added = λ wanted answers file are again others.
          filled-same wanted (filled wanted answers file) 0 Head first_state again (asks-filled wanted file 0 Head first_state answers sound-first (all-answered _ answers are)) (all-answered _ again others);
    }
