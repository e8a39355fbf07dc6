use Rattle.dd_fill.specs.Said.{clear_texts}
use Rattle.dd_fill.proofs.Saying.{says-append, says-one}
use Rattle.dd_fill.proofs.progress.say.Goals as goal

pub returns : goal.returns
returns g c = says-append (clear_texts c.args.shows_progress) _ _ _ _ c.clear_progress.ensures (says-one _ _ _ c.say_text.ensures)
