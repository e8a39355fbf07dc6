use Rattle.std.proofs.Common.{◌∙◌, subst, sym}
use Rattle.dd_fill.specs.Said.{Says, SaysAll, progress_texts, sink_of}
use Rattle.dd_fill.proofs.Saying.{progress-none, says-one}
use Rattle.dd_fill.proofs.progress.show_progress.Goals as goal

pub returns-then-not-shows_progress : goal.returns-then-not-shows_progress
returns-then-not-shows_progress g c = progress-none c.args.shows_progress c.args.games c.args.bytes _ c.if-not-shows_progress.true

pub returns : goal.returns
returns g c =
    let before = sink_of g.E.Write.contents c.args.errors.now in
    let after = sink_of g.E.Write.contents c.say_text.new.errors in
    subst (λ b. SaysAll (progress_texts b c.args.games c.args.bytes) before after) (sym c.if-not-shows_progress.false)
    (says-one _ _ _ (subst (λ l. Says l before after) (c.as_slice.ensures.value ∙ c.progress_of-text.ensures) c.say_text.ensures))
