use Rattle.std.proofs.Common.{ap, inr, refl}
use Rattle.std.specs.Prelude.{Err}
use Rattle.std.proofs.lemmas.Result.{err_from_is_err_and}
use Rattle.dd_wire.specs.Requests.{SpellsNone, deal_fault}
use Rattle.dd_wire.proofs.request_reader.table_asked.Goals as goal

pub returns-in_err-hands : goal.returns-in_err-hands
returns-in_err-hands c =
    let p = err_from_is_err_and c.from_residual.result c.from_residual.ensures.1 in
    let none = c.in_err-hands.ensures.err in
    let why : SpellsNone c.args.deal.now none.0 = rw c.as_bytes.ensures.value at none.1 in
    rw (p.1, p.2) (Err (deal_fault none.0), inr (none.0, why, refl), ap Err none.2)
