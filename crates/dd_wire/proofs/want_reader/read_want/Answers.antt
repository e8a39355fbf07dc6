use Rattle.std.proofs.Common.{◌≡◌, ◌≢◌, ◌∙◌, Some, arith, subst, sym}
use Rattle.std.specs.Prelude.{Result, Ok, Err, IfOk, IfErr}
use Rattle.std.proofs.lemmas.Result.{err_from_is_err_and}
use Rattle.serde_json.specs.View.{members_view}
use Rattle.dd_wire.specs.Requests.{wait_at}
use Rattle.dd_wire.specs.declared.fault.Fault.{Fault}
use Rattle.dd_wire.specs.declared.fault.Fault.TheVariants.{OutOfMemory}
use Rattle.dd_wire.specs.Wants.{MeansWant, MeansWanted}
use Rattle.dd_wire.proofs.Meanings.{never-memory}
use Rattle.dd_wire.proofs.WantMeanings.{means-wanted, wanted-memory}
use Rattle.dd_wire.proofs.want_reader.read_want.Goals as goal

pub returns-in_err-asked-clause-err : goal.returns-in_err-asked-clause-err
returns-in_err-asked-clause-err c =
    let members = members_view c.in_ok-object.object.entries in
    let p = err_from_is_err_and c.from_residual-in_err-asked.result c.from_residual-in_err-asked.ensures.1 in
    let waits : wait_at members ≡ Some c.in_ok-wait.wait = sym c.wait_at.ensures ∙ c.in_ok-wait.ensures.ok_part in
    rw (p.1, p.2) (λ _. means-wanted c.args.allow_stop c.args.line.now members c.in_ok-wait.wait _ (omega arith) c.in_ok-object.ensures.ok waits
    (subst (MeansWanted c.args.allow_stop c.in_ok-wait.wait members) c.in_err-asked.was c.wanted_by.ensures))

pub returns-in_err-asked-clause-memory : goal.returns-in_err-asked-clause-memory
returns-in_err-asked-clause-memory c = λ out.
    let members = members_view c.in_ok-object.object.entries in
    let p = err_from_is_err_and c.from_residual-in_err-asked.result c.from_residual-in_err-asked.ensures.1 in
    absurd (never-memory (MeansWanted c.args.allow_stop c.in_ok-wait.wait members) c.wanted_by.result c.from_residual-in_err-asked.result _ p.0 (wanted-memory c.args.allow_stop c.in_ok-wait.wait members) c.wanted_by.ensures c.in_err-asked.was p.1 p.2 out)

at-ok : {A : Type 0} (P : Result A Fault → Type 0) (r : Result A Fault) → P r → IfOk r (λ a. P (Ok a))
at-ok P (Ok a) is = is
at-ok P (Err fault) is = tt

at-err : {A : Type 0} (P : Result A Fault → Type 0) (r : Result A Fault) → P r → IfErr r (λ fault. fault ≢ OutOfMemory → P (Err fault))
at-err P (Ok a) is = tt
at-err P (Err fault) is = λ _. is

pub returns-in-Some-clause-ok : goal.returns-in-Some-clause-ok
returns-in-Some-clause-ok c = at-ok (MeansWant c.args.allow_stop c.args.line.now) c.in-Some.meaning (c.in-Some.ensures.means (omega arith) c.args.allow_stop)

pub returns-in-Some-clause-err : goal.returns-in-Some-clause-err
returns-in-Some-clause-err c = at-err (MeansWant c.args.allow_stop c.args.line.now) c.in-Some.meaning (c.in-Some.ensures.means (omega arith) c.args.allow_stop)
