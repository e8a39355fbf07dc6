use Rattle.std.proofs.Common.{◌≡◌, ◌∙◌, sym, ap, None}
use Rattle.serde_json.specs.View.{items_view}
use Rattle.dd_pbn.specs.Reading.{◌>>=◌}
use Rattle.dd_wire.specs.ParLines.{row_of}
use Rattle.dd_wire.proofs.ParRows.{row_of-short, row_of-long}
use Rattle.dd_wire.proofs.par_reader.row_in.Goals as goal

pub returns-in_default : goal.returns-in_default
returns-in_default c =
    let short : row_of (items_view c.in_ok-as_array.field-0.now.items) ≡ None = rw c.as_slice.ensures.value at (row_of-short c.as_slice.result.now c.in_default.len_below) in
    sym short ∙ ap (λ o. o >>= row_of) c.in_ok-as_array.ensures

pub returns-in_default-2 : goal.returns-in_default-2
returns-in_default-2 c =
    let long : row_of (items_view c.in_ok-as_array.field-0.now.items) ≡ None = rw c.as_slice.ensures.value at (row_of-long c.as_slice.result.now c.in_default.len_at_least) in
    sym long ∙ ap (λ o. o >>= row_of) c.in_ok-as_array.ensures
