use Rattle.std.proofs.Common.{◌≡◌, ◌∙◌, None, rules, sym}
use Rattle.std.specs.Prelude.{Err}
use Rattle.serde_json.specs.View.{members_view}
use Rattle.dd_wire.specs.declared.fault.Fault.TheVariants.{WrongField}
use Rattle.dd_wire.specs.Requests.{wait_at}
use Rattle.dd_wire.proofs.ExplainingWants.{bare-wants, bare-waits-wrong}
use Rattle.dd_wire.proofs.explained_want.bare_wanted.Goals as goal

pub returns : goal.returns
returns c = bare-wants c.args.allow_stop (members_view c.args.object.now.entries) c.in_ok-wait.wait c.wanted_by.result (sym c.wait_at.ensures ∙ c.in_ok-wait.ensures.ok_part) c.wanted_by.ensures

pub returns-in_err-wait : goal.returns-in_err-wait
returns-in_err-wait c =
    let none : wait_at (members_view c.args.object.now.entries) ≡ None = search rules in
    let is : c.from_residual.result ≡ Err WrongField = search rules in
    bare-waits-wrong c.args.allow_stop (members_view c.args.object.now.entries) c.from_residual.result none is
