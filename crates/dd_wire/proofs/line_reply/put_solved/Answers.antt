use Rattle.std.proofs.Common.{ap, ◌∙◌, inl}
use Rattle.dd_wire.specs.Replies.{answer_text}
use Rattle.dd_wire.proofs.line_reply.put_solved.Goals as goal

pub returns-in-Some-clause-text : goal.returns-in-Some-clause-text
returns-in-Some-clause-text g c = inl (c.put_answer.ensures.text ∙ ap answer_text (c.answer.ensures.found ∙ ap (λ s. s.answer) c.in-Some.ensures.solved))
