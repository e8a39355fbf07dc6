use Rattle.std.proofs.Common.{◌≡◌, ◌∙◌, None, rules, sym}
use Rattle.std.specs.Prelude.{Err}
use Rattle.serde_json.specs.View.{members_view}
use Rattle.dd_wire.specs.declared.fault.Fault.TheVariants.{WrongField}
use Rattle.dd_wire.specs.Requests.{wait_at}
use Rattle.dd_wire.proofs.Explaining.{bare-means, bare-waits}
use Rattle.dd_wire.proofs.explained.bare_asked.Goals as goal

pub returns : goal.returns
returns c = bare-means (members_view c.args.object.now.entries) c.in_ok-ok_or.field-0 c.line_asked_by.result (sym c.wait_at.ensures ∙ c.in_ok-ok_or.ensures.ok_part) c.line_asked_by.ensures

pub returns-in_err-ok_or : goal.returns-in_err-ok_or
returns-in_err-ok_or c =
    let none : wait_at (members_view c.args.object.now.entries) ≡ None = search rules in
    let is : c.from_residual.result ≡ Err WrongField = search rules in
    bare-waits (members_view c.args.object.now.entries) c.from_residual.result none is
