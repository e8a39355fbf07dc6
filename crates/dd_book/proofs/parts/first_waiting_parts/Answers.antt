use Rattle.std.proofs.Common.{◌+◌, ◌∙◌, ap, sym, length, ℕ}
use Rattle.std.specs.List.{count_by}
use Rattle.dd_request.specs.declared.asked.Asked.{Asked}
use Rattle.dd_book.specs.Parts.{is_waiting}
use Rattle.dd_book.specs.Jobs.{first_parts}
use Rattle.dd_book.proofs.Counting.{first-known, first-open}
use Rattle.dd_book.proofs.Lists.{last-known, last-waits}
use Rattle.dd_book.proofs.parts.first_waiting_parts.Goals as goal

pub returns-in-Some-clause-count : goal.returns-in-Some-clause-count
returns-in-Some-clause-count c =
    let known = last-known c.in-Play.request c.in-Some.field-0 c.in-Some.ensures.0 c.in-Some.ensures.1 in
    ap length c.cards.ensures.value ∙ first-known c.in-Play.request c.in-Some.field-0 known ∙ ap (λ (asked : Asked). count_by is_waiting (first_parts asked)) (sym c.in-Play.is)

pub returns-in-None-clause-count : goal.returns-in-None-clause-count
returns-in-None-clause-count c =
    ap (λ (n : ℕ). n + 1) (ap length c.cards.ensures.value) ∙ first-open c.in-Play.request (last-waits c.in-Play.request c.in-None.ensures)
    ∙ ap (λ (asked : Asked). count_by is_waiting (first_parts asked)) (sym c.in-Play.is)
