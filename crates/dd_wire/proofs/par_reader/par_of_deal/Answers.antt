use Rattle.std.proofs.Common.{ap, inr}
use Rattle.std.specs.Prelude.{Err}
use Rattle.std.proofs.lemmas.Result.{err_from_is_err_and}
use Rattle.dd_wire.specs.Requests.{SpellsNone}
use Rattle.dd_wire.proofs.par_reader.par_of_deal.Goals as goal

pub returns-in_err-hands : goal.returns-in_err-hands
returns-in_err-hands c =
    let p = err_from_is_err_and c.from_residual.result c.from_residual.ensures.1 in
    let none = c.in_err-hands.ensures.err in
    let why : SpellsNone c.args.text.now none.0 = rw c.as_bytes.ensures.value at none.1 in
    rw (p.1, p.2) (inr (none.0, why, ap Err none.2))
