use Rattle.std.proofs.Common.{◌≡◌, ◌∙◌, Some, arith, subst, sym}
use Rattle.std.proofs.lemmas.Result.{err_from_is_err_and}
use Rattle.serde_json.specs.View.{members_view}
use Rattle.dd_wire.specs.Lines.{MeansMembers}
use Rattle.dd_wire.specs.Requests.{wait_at}
use Rattle.dd_wire.proofs.LineMeanings.{means-members, members-memory}
use Rattle.dd_wire.proofs.Meanings.{never-memory}
use Rattle.dd_wire.proofs.request_reader.read_request.Goals as goal

pub returns-in_err-asked-clause-err : goal.returns-in_err-asked-clause-err
returns-in_err-asked-clause-err c =
    let members = members_view c.in_ok-object.object.entries in
    let p = err_from_is_err_and c.from_residual-in_err-asked.result c.from_residual-in_err-asked.ensures.1 in
    let waits : wait_at members ≡ Some c.in_ok-ok_or.field-0 = sym c.wait_at.ensures ∙ c.in_ok-ok_or.ensures.ok_part in
    rw (p.1, p.2) (λ _. means-members c.args.line.now members c.in_ok-ok_or.field-0 _ (omega arith) c.in_ok-object.ensures.ok waits
    (subst (MeansMembers members) c.in_err-asked.was c.line_asked_by.ensures))

pub returns-in_err-asked-clause-memory : goal.returns-in_err-asked-clause-memory
returns-in_err-asked-clause-memory c = λ out.
    let members = members_view c.in_ok-object.object.entries in
    let p = err_from_is_err_and c.from_residual-in_err-asked.result c.from_residual-in_err-asked.ensures.1 in
    absurd (never-memory (MeansMembers members) c.line_asked_by.result c.from_residual-in_err-asked.result _ p.0 (members-memory members) c.line_asked_by.ensures c.in_err-asked.was p.1 p.2 out)
