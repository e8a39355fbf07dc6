use Rattle.std.proofs.Common.{refl}
use Rattle.std.specs.Prelude.{codes}
use Rattle.dd_wire.proofs.UsualValues.{text-is}
use Rattle.dd_wire.proofs.usual_reader.read_task.Goals as goal

pub returns-in-Some : goal.returns-in-Some
returns-in-Some c =
    rw c.in_ok-ended.ensures.0 (text-is c.args.text.now _ (codes "solve") _ c.in-Some.rest.now c.in-Some.ensures refl refl refl c.in_ok-ended.ensures.1)

pub returns-in-Some-after : goal.returns-in-Some-after
returns-in-Some-after c =
    rw c.in_ok-ended-2.ensures.0 (text-is c.args.text.now _ (codes "fetch") _ c.in-Some-after.rest.now c.in-Some-after.ensures refl refl refl c.in_ok-ended-2.ensures.1)

pub returns : goal.returns
returns c =
    rw c.in_ok-ended-3.ensures.0 (text-is c.args.text.now _ (codes "par") _ c.in_ok-rest.rest.now c.in_ok-rest.ensures refl refl refl c.in_ok-ended-3.ensures.1)
