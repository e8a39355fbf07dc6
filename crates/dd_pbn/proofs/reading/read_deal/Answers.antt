use Rattle.std.proofs.Common.{◌∙◌, ap}
use Rattle.std.proofs.lemmas.Result.{IfOk-weaker}
use Rattle.dd_pbn.specs.Values.{IsValue}
use Rattle.dd_pbn.specs.Reading.{outcome, value_of}
use Rattle.dd_pbn.proofs.ValueTexts.{Reads-value}
use Rattle.dd_pbn.proofs.Decided.{spelled-read, result-read, result-fault}
use Rattle.dd_pbn.proofs.reading.read_deal.Goals as goal

pub returns-clause-read : goal.returns-clause-read
returns-clause-read c =
    let text = c.args.text.now in
    IfOk-weaker c.outcome.result _ _ (λ deal both. both.1) (result-read (IsValue text) (value_of text) (Reads-value text) c.outcome.result (c.outcome.ensures ∙ ap outcome c.seen_in_value.ensures))

pub returns-clause-hands : goal.returns-clause-hands
returns-clause-hands c =
    let text = c.args.text.now in
    IfOk-weaker c.outcome.result _ _ (λ deal both. both.0) (result-read (IsValue text) (value_of text) (Reads-value text) c.outcome.result (c.outcome.ensures ∙ ap outcome c.seen_in_value.ensures))

pub returns-clause-only : goal.returns-clause-only
returns-clause-only c deal are spells =
    let text = c.args.text.now in
    c.outcome.ensures ∙ ap outcome c.seen_in_value.ensures ∙ spelled-read (IsValue text) (value_of text) (Reads-value text) deal are spells

pub returns-clause-fault : goal.returns-clause-fault
returns-clause-fault c =
    let text = c.args.text.now in
    result-fault (IsValue text) (value_of text) (Reads-value text) c.outcome.result (c.outcome.ensures ∙ ap outcome c.seen_in_value.ensures)
