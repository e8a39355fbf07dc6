use Rattle.std.proofs.Common.{◌∙◌, arith, refl}
use Rattle.dd_wire.proofs.UsualValues.{one-more}
use Rattle.dd_wire.proofs.usual_reader.read_longer.Goals as goal

pub digits-init : goal.digits-init
digits-init c = (c.requires, refl)

pub digits-preserved : goal.digits-preserved
digits-preserved c = (
  omega (arith, c.digits.invariant.0),
  c.digits.invariant.1
      ∙ one-more c.digits.number c.in_ok-next.next c.digits.rest.now c.in_ok-next.behind.now c.digits.invariant.0 (omega (arith, c.digits-test.true)) c.in_ok-next.ensures.0 c.in_ok-next.ensures.1,
)

pub returns-then-ends_number : goal.returns-then-ends_number
returns-then-ends_number c =
    let below = c.digits-test.true in (
      omega (arith, below, c.in_ok-next.ensures.0),
      c.digits.invariant.1
          ∙ one-more c.digits.number c.in_ok-next.next c.digits.rest.now c.in_ok-next.behind.now c.digits.invariant.0 (omega (arith, below)) c.in_ok-next.ensures.0 c.in_ok-next.ensures.1,
      c.ends_number.ensures c.if-ends_number.true,
    )
