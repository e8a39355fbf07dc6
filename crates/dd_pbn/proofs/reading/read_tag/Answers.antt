use Rattle.std.proofs.Common.{◌∙◌, ap}
use Rattle.std.proofs.lemmas.Result.{IfOk-weaker}
use Rattle.dd_pbn.specs.Values.{IsTag}
use Rattle.dd_pbn.specs.Reading.{outcome, tag_of}
use Rattle.dd_pbn.proofs.ValueTexts.{Reads-tag}
use Rattle.dd_pbn.proofs.Decided.{spelled-read, result-read, result-fault}
use Rattle.dd_pbn.proofs.reading.read_tag.Goals as goal

pub returns-clause-read : goal.returns-clause-read
returns-clause-read c =
    let text = c.args.text.now in
    IfOk-weaker c.outcome.result _ _ (λ deal both. both.1) (result-read (IsTag text) (tag_of text) (Reads-tag text) c.outcome.result (c.outcome.ensures ∙ ap outcome c.seen_in_tag.ensures))

pub returns-clause-hands : goal.returns-clause-hands
returns-clause-hands c =
    let text = c.args.text.now in
    IfOk-weaker c.outcome.result _ _ (λ deal both. both.0) (result-read (IsTag text) (tag_of text) (Reads-tag text) c.outcome.result (c.outcome.ensures ∙ ap outcome c.seen_in_tag.ensures))

pub returns-clause-only : goal.returns-clause-only
returns-clause-only c deal are spells =
    let text = c.args.text.now in
    c.outcome.ensures ∙ ap outcome c.seen_in_tag.ensures ∙ spelled-read (IsTag text) (tag_of text) (Reads-tag text) deal are spells

pub returns-clause-fault : goal.returns-clause-fault
returns-clause-fault c =
    let text = c.args.text.now in
    result-fault (IsTag text) (tag_of text) (Reads-tag text) c.outcome.result (c.outcome.ensures ∙ ap outcome c.seen_in_tag.ensures)
