use Rattle.std.proofs.Common.{◌<◌, ◌∙◌, ◌++◌, ◌∷◌, [], List, get_or, ap, sym, arith, length, append-nil}
use Rattle.dd_book.specs.declared.parts.Part.{Part}
use Rattle.dd_book.specs.Parts.{numbers_in}
use Rattle.dd_book.proofs.Lists.{numbers_in-more, numbers_in-room}
use Rattle.dd_book.proofs.parts.gather_numbers.Goals as goal
use Rattle.dd_book.proofs.parts.gather_numbers.Goals.{in-Waiting, in-Running, in-Ended, in-Number}

pub push-requires : goal.push-requires
push-requires c =
    let room = numbers_in-room c.loop-part.part-index c.args.parts.now.items in
    let many = ap length c.loop-part.invariant in
    omega (arith, room, many, c.loop-part-test.true, c.requires, c.deref-part-items.ensures.len)

pub loop-part-preserved : goal.loop-part-preserved
loop-part-preserved c =
    let within : c.loop-part.part-index < length c.args.parts.now.items = omega (arith, c.loop-part-test.true, c.deref-part-items.ensures.len, c.args.parts.now.ok) in
    let more = numbers_in-more c.args.parts.now.items c.loop-part.part-index c.part-item.result c.loop-part.trace within (c.part-item.is ∙ ap (λ (ps : List Part). get_or ps c.loop-part.part-index c.part-item.result) c.deref-part-items.ensures.value) c.loop-part.invariant in
    elim c.match-part.branch [
      | in-Waiting w ↦ w.trace-is ∙ sym (more ∙ ap (λ (p : Part). c.loop-part.trace ++ numbers_in (p ∷ [])) w.in-Waiting.is ∙ append-nil c.loop-part.trace)
      | in-Running w ↦ w.trace-is ∙ sym (more ∙ ap (λ (p : Part). c.loop-part.trace ++ numbers_in (p ∷ [])) w.in-Running.is ∙ append-nil c.loop-part.trace)
      | in-Ended w ↦ w.trace-is ∙ sym (more ∙ ap (λ (p : Part). c.loop-part.trace ++ numbers_in (p ∷ [])) w.in-Ended.is ∙ append-nil c.loop-part.trace)
      | in-Number w ↦ w.trace-is ∙ w.push.ensures ∙ sym (more ∙ ap (λ (p : Part). c.loop-part.trace ++ numbers_in (p ∷ [])) w.in-Number.is)
    ]
