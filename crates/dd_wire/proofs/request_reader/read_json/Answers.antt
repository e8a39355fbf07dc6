use Rattle.std.proofs.Common.{inl, inr}
use Rattle.serde_json.specs.View.{view}
use Rattle.dd_wire.proofs.Objects.{object_of-read, object_of-refused, map_err-ok, map_err-err}
use Rattle.dd_wire.proofs.request_reader.read_json.Goals as goal

pub returns-clause-ok : goal.returns-clause-ok
returns-clause-ok c = map_err-ok c.from_slice.result c.map_err.result _ _ _ c.map_err.ensures.cases c.from_slice.ensures.ok (λ value is. object_of-read c.args.line.now (view value) is.0 is.1)

pub returns-clause-err : goal.returns-clause-err
returns-clause-err c =
    map_err-err c.from_slice.result c.map_err.result _ _ _ _ c.map_err.ensures.cases c.from_slice.ensures.memory c.from_slice.ensures.err
    (λ error fault turns memory refused. elim turns [
      | inl out ↦ inl (out.1, memory out.0)
      | inr text ↦ inr (text.1, object_of-refused c.args.line.now (refused text.0))
    ])
