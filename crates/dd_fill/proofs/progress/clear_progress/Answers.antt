use Rattle.std.proofs.Common.{subst, sym}
use Rattle.dd_fill.specs.Said.{SaysAll, clear_texts, sink_of}
use Rattle.dd_fill.proofs.Saying.{clear-none, says-one}
use Rattle.dd_fill.proofs.progress.clear_progress.Goals as goal

pub returns-then-not-shows_progress : goal.returns-then-not-shows_progress
returns-then-not-shows_progress g c = clear-none c.args.shows_progress _ c.if-not-shows_progress.true

pub returns : goal.returns
returns g c =
    subst (λ b. SaysAll (clear_texts b) (sink_of g.E.Write.contents c.args.errors.now) (sink_of g.E.Write.contents c.say_text.new.errors)) (sym c.if-not-shows_progress.false)
    (says-one _ _ _ c.say_text.ensures)
