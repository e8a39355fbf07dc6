use Rattle.std.proofs.Common.{◌≡◌, ◌∙◌, sym, ap, None}
use Rattle.serde_json.specs.View.{items_view}
use Rattle.dd_pbn.specs.Reading.{◌>>=◌}
use Rattle.dd_wire.specs.ParLines.{rows_of}
use Rattle.dd_wire.proofs.ParRows.{rows_of-short, rows_of-long}
use Rattle.dd_wire.proofs.par_reader.rows_in.Goals as goal

pub returns-in_default : goal.returns-in_default
returns-in_default c =
    let short : rows_of (items_view c.in_ok-as_array.field-0.now.items) ≡ None = rw c.as_slice.ensures.value at (rows_of-short c.as_slice.result.now c.in_default.len_below) in
    sym short ∙ ap (λ o. o >>= rows_of) c.in_ok-as_array.ensures

pub returns-in_default-2 : goal.returns-in_default-2
returns-in_default-2 c =
    let long : rows_of (items_view c.in_ok-as_array.field-0.now.items) ≡ None = rw c.as_slice.ensures.value at (rows_of-long c.as_slice.result.now c.in_default.len_at_least) in
    sym long ∙ ap (λ o. o >>= rows_of) c.in_ok-as_array.ensures
