use Rattle.std.proofs.Common.{◌∙◌}
use Rattle.dd_file.specs.declared.mode.Mode.TheVariants.{Quoted}
use Rattle.dd_file.proofs.Calm.{calm-stopped, calm-through, calm-within}
use Rattle.dd_file.proofs.quiet.after_quoted.Goals as goal

pub from_stop-requires : goal.from_stop-requires
from_stop-requires c = calm-within Quoted c.loop-rest.rest.now _ c.loop-rest-test.true c.quoted_stops-stops.ensures c.if-stops-ne0.true

pub loop-rest-preserved : goal.loop-rest-preserved
loop-rest-preserved c = calm-through Quoted c.loop-rest.rest.now _ _ c.quoted_stops-stops.ensures c.if-stops-ne0.false c.behind_lanes-rest.ensures ∙ c.loop-rest.invariant

pub returns-then-stops-ne0 : goal.returns-then-stops-ne0
returns-then-stops-ne0 c = calm-stopped Quoted c.loop-rest.rest.now _ _ c.loop-rest-test.true c.quoted_stops-stops.ensures c.if-stops-ne0.true c.from_stop.ensures ∙ c.loop-rest.invariant
