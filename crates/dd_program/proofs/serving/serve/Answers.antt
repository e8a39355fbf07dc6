use Rattle.std.proofs.Common.{◌∙◌, subst}
use Rattle.dd_streams.specs.Endings.{WritesAll, state_of}
use Rattle.dd_program.proofs.serving.serve.Goals as goal

pub returns-in-Ok-tell : goal.returns-in-Ok-tell
returns-in-Ok-tell g c = λ input. c.attend.ensures input _ c.in-Ok-listening_line.ensures.0
    (subst (λ l. WritesAll l (state_of g.O.Write.contents c.args.output.now) (state_of g.O.Write.contents c.tell.new.output)) (c.as_str.ensures.value ∙ c.in-Ok-listening_line.ensures.1) c.in-Ok-tell.ensures.all)
