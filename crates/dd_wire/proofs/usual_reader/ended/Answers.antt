use Rattle.std.proofs.Common.{refl, inl, inr}
use Rattle.dd_wire.proofs.UsualValues.{ends-member}
use Rattle.dd_wire.proofs.usual_reader.ended.Goals as goal

pub returns-then-byte-eq44 : goal.returns-then-byte-eq44
returns-then-byte-eq44 c = (refl, ends-member c.args.text.now c.in_ok-byte.field-0.now c.in_ok-byte.ensures.value (inl c.if-byte-eq44.true))

pub returns-then-byte-eq125 : goal.returns-then-byte-eq125
returns-then-byte-eq125 c = (refl, ends-member c.args.text.now c.in_ok-byte.field-0.now c.in_ok-byte.ensures.value (inr c.if-byte-eq125.true))
