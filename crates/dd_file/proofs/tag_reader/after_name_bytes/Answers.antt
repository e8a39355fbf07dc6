use Rattle.std.proofs.Common.{◌∙◌}
use Rattle.dd_file.specs.Tags.{after_name, is_name}
use Rattle.dd_file.proofs.AgainMiss.{name-step, name-stop}
use Rattle.dd_file.proofs.Stretches.{none-left, stop-left, stop-within}
use Rattle.dd_file.proofs.tag_reader.after_name_bytes.Goals as goal

pub from_stop-requires : goal.from_stop-requires
from_stop-requires c =
    stop-within is_name after_name name-step name-stop c.loop-rest.rest.now _ c.loop-rest-test.true c.name_stops-stops.ensures c.if-stops-ne0.true

pub loop-rest-preserved : goal.loop-rest-preserved
loop-rest-preserved c =
    none-left is_name after_name name-step name-stop c.loop-rest.rest.now _ _ c.name_stops-stops.ensures c.if-stops-ne0.false c.behind_lanes-rest.ensures
    ∙ c.loop-rest.invariant

pub returns-then-stops-ne0 : goal.returns-then-stops-ne0
returns-then-stops-ne0 c =
    stop-left is_name after_name name-step name-stop c.loop-rest.rest.now _ _ c.loop-rest-test.true c.name_stops-stops.ensures c.if-stops-ne0.true c.from_stop.ensures
    ∙ c.loop-rest.invariant
