use Rattle.std.proofs.Common.{◌∙◌, arith, length-take, Ok, Err}
use Rattle.std.specs.Prelude.{Result, OnOk, IsOk}
use Rattle.std.proofs.lemmas.Bool.{false≢true}
use Rattle.dd_lines.specs.declared.line.TheConstants.{KEPT}
use Rattle.dd_lines.proofs.Kept.{kept-run}
use Rattle.dd_lines.proofs.line.Line.extend.Goals as goal

where_ok : {T E P : Type 0} (r : Result T E) → IsOk r → OnOk r P → P
where_ok (Ok x) fits holds = holds
where_ok (Err e) fits holds = absurd (false≢true fits)

pub returns : goal.returns
returns c = λ line stands.
    let kept = kept-run KEPT c.remaining_capacity-room.result c.min-kept.result line c.args.self.now.bytes.items c.args.bytes.now stands c.remaining_capacity-room.ensures c.min-kept.ensures in
    let fits = c.try_extend_from_slice-fits.ensures.variant.1 (let size = length-take c.min-kept.result c.args.bytes.now in omega (arith, c.remaining_capacity-room.ensures, c.min-kept.ensures)) in
    where_ok c.try_extend_from_slice-fits.result fits c.try_extend_from_slice-fits.ensures.ok ∙ kept
