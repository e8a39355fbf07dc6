use Rattle.std.proofs.Common.{◌∙◌, sym}
use Rattle.dd_file.specs.declared.mode.Mode.TheVariants.{Escaped}
use Rattle.dd_file.proofs.Calm.{calm-stopped, calm-through, calm-within, lines-alike}
use Rattle.dd_file.proofs.quiet.after_line.Goals as goal

pub from_stop-requires : goal.from_stop-requires
from_stop-requires c = calm-within Escaped c.loop-rest.rest.now _ c.loop-rest-test.true c.line_stops-stops.ensures c.if-stops-ne0.true

pub loop-rest-preserved : goal.loop-rest-preserved
loop-rest-preserved c = calm-through Escaped c.loop-rest.rest.now _ _ c.line_stops-stops.ensures c.if-stops-ne0.false c.behind_lanes-rest.ensures ∙ c.loop-rest.invariant

pub returns-then-stops-ne0-clause-escaped : goal.returns-then-stops-ne0-clause-escaped
returns-then-stops-ne0-clause-escaped c =
    calm-stopped Escaped c.loop-rest.rest.now _ _ c.loop-rest-test.true c.line_stops-stops.ensures c.if-stops-ne0.true c.from_stop.ensures ∙ c.loop-rest.invariant

pub returns-then-stops-ne0-clause-remark : goal.returns-then-stops-ne0-clause-remark
returns-then-stops-ne0-clause-remark c =
    calm-stopped Escaped c.loop-rest.rest.now _ _ c.loop-rest-test.true c.line_stops-stops.ensures c.if-stops-ne0.true c.from_stop.ensures ∙ c.loop-rest.invariant
    ∙ sym (lines-alike c.args.text.now)

pub returns-clause-remark : goal.returns-clause-remark
returns-clause-remark c = c.after_line_one_by_one.ensures.escaped ∙ c.loop-rest.invariant ∙ sym (lines-alike c.args.text.now)
