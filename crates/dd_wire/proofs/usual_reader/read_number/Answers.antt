use denote.Bor.{Bor}
use Rattle.std.proofs.Common.{ℕ, List}
use Rattle.dd_wire.proofs.UsualValues.{if-some, more-digits, one-digit, two-digits}
use Rattle.dd_wire.proofs.usual_reader.read_number.Goals as goal

pub returns-then-ends_number : goal.returns-then-ends_number
returns-then-ends_number c =
    one-digit c.args.text.now c.in_ok-first.after_first.now c.in_ok-first.first c.in_ok-first.ensures.0 c.in_ok-first.ensures.1 (c.ends_number.ensures c.if-ends_number.true)

pub returns-then-ends_number-2 : goal.returns-then-ends_number-2
returns-then-ends_number-2 c =
    two-digits c.args.text.now c.in_ok-first.after_first.now c.in_ok-second.rest.now c.in_ok-first.first c.in_ok-second.second c.if-first-eq0.false c.in_ok-first.ensures.0 c.in_ok-second.ensures.0
    c.in_ok-first.ensures.1 c.in_ok-second.ensures.1 (c.ends_number-2.ensures c.if-ends_number-2.true)

pub returns-else-ends_number-2 : goal.returns-else-ends_number-2
returns-else-ends_number-2 c =
    if-some {A = ℕ × Bor (List ℕ)} _ _ _ c.read_longer.ensures (λ found is.
    more-digits c.args.text.now c.in_ok-first.after_first.now c.in_ok-second.rest.now found.1.now c.in_ok-first.first c.in_ok-second.second found.0 c.if-first-eq0.false c.in_ok-first.ensures.0
    c.in_ok-second.ensures.0 c.in_ok-first.ensures.1 c.in_ok-second.ensures.1 is.0 is.1 is.2)
