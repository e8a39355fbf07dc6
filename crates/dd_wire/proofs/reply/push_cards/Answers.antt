use Rattle.std.proofs.Common.{◌≡◌, ℕ, ◌<◌, ◌++◌, ◌∷◌, [], ◌∙◌, ap, arith, List, length, get_or}
use Rattle.std.specs.Prelude.{codes}
use Rattle.arrayvec.specs.ArrayString.{ArrayString}
use Rattle.dd_request.specs.ScoredClasses.{ScoredClass}
use Rattle.dd_wire.specs.Replies.{class_text}
use Rattle.dd_wire.proofs.Texts.{join-first, join-next}
use Rattle.dd_wire.proofs.reply.push_cards.Goals as goal
use Rattle.dd_wire.proofs.reply.push_cards.Goals.{then-place-gt0, else-place-gt0}

pub loop-place-preserved : goal.loop-place-preserved
loop-place-preserved c =
    let items : List ScoredClass = c.args.answer.now in
    let place : ℕ = c.loop-place.place in
    let head : List ℕ = c.args.text.now.bytes ++ codes "\"cards\":[" in
    let scored : ScoredClass = c.scored-item.result in
    let before : List ℕ = c.loop-place.text.bytes in
    let same = c.as_slice-scored-items.ensures.classes in
    let within : place < length items = (let k = c.loop-place-test.true in let e = ap length same in omega arith) in
    let here : scored ≡ get_or items place scored = c.scored-item.is ∙ ap (λ xs. get_or xs place scored) same in
    let pushed = c.push_class.ensures.bytes in
    let bound = c.push_class.ensures.bound in
    let short = c.loop-place.invariant.short in
    elim c.if-place-gt0.branch [
      | then-place-gt0 w ↦ (
          let text : c.if-place-gt0.text.bytes ≡ before ++ 44 ∷ [] = ap (λ (t : ArrayString). t.bytes) w.text-is ∙ w.push_str-then-place-gt0.ensures.bytes in
          let longer = w.push_str-then-place-gt0.ensures.len in
          let size = ap (λ (t : ArrayString). length t.bytes) w.text-is in
          record {
            written = pushed ∙ ap (λ t. t ++ class_text scored) text ∙ ap (λ s. (before ++ 44 ∷ []) ++ class_text s) here ∙ join-next 44 class_text items place scored head before w.if-place-gt0.true within c.loop-place.invariant.written;
            short = omega arith;
          })
      | else-place-gt0 w ↦ (
          let text : c.if-place-gt0.text.bytes ≡ before = ap (λ (t : ArrayString). t.bytes) w.text-is in
          let size = ap (λ (t : ArrayString). length t.bytes) w.text-is in
          let none : place ≡ 0 = (let k = w.if-place-gt0.false in omega arith) in
          record {
            written = pushed ∙ ap (λ t. t ++ class_text scored) text ∙ ap (λ s. before ++ class_text s) here ∙ join-first 44 class_text items place scored head before none within c.loop-place.invariant.written;
            short = omega arith;
          })
    ]
