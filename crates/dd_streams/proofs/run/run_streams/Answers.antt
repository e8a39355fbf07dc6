use Rattle.std.proofs.Common.{◌∙◌, inl, inr}
use Rattle.dd_streams.specs.Endings.{state_of, streams}
use Rattle.dd_streams.proofs.DoneUntil.{done-fill}
use Rattle.dd_streams.proofs.run.run_streams.Goals as goal

pub returns : goal.returns
returns g c = elim c.in-Err.ensures.error [
  | inl memory ↦ absurd (c.in_default.not-OutOfMemory (c.kind.ensures ∙ memory))
  | inr (nothing, has) ↦ inr (inl (_, nothing, has, c.show.ensures _))
]

pub returns-in-Ok-Fill : goal.returns-in-Ok-Fill
returns-in-Ok-Fill g c =
    let input = state_of g.R.Read.remaining in
    inl (
      c.in-Ok-Fill.field-0,
      c.in-Ok-Fill.ensures.asked,
      done-fill c.in-Ok-Fill.field-0 _ _ _ _ c.as_str.result.now c.args.is_terminal (streams (input c.args.reader.now) (state_of g.O.Write.contents c.args.output.now) (state_of g.E.Write.contents c.args.errors.now))
          (streams (input c.fill.new.reader) (state_of g.O.Write.contents c.fill.new.output) (state_of g.E.Write.contents c.fill.new.errors)) c.fill.result c.in-Ok-Fill.field-0-is c.as_str.ensures.value c.fill.ensures,
    )
