use Rattle.std.proofs.Common.{◌≡◌, ℕ, ◌+◌, ◌*◌, ◌<◌, ◌++◌, ◌∷◌, [], ◌∙◌, sym, ap, arith, List, length, get_or}
use Rattle.std.specs.Prelude.{codes}
use Rattle.std.specs.List.{range_with_len, slice_range}
use Rattle.std.proofs.lemmas.List.FromFn.{get_or-range_with_len}
use Rattle.arrayvec.specs.ArrayString.{ArrayString}
use Rattle.dd_wire.specs.Replies.{list_text, of_strain}
use Rattle.dd_wire.proofs.Texts.{join-first, join-next}
use Rattle.dd_wire.proofs.reply.push_table.Goals as goal
use Rattle.dd_wire.proofs.reply.push_table.Goals.{then-strain-gt0, else-strain-gt0}

pub loop-strain-preserved : goal.loop-strain-preserved
loop-strain-preserved c =
    let results : List ℕ = c.args.results.now in
    let strain : ℕ = c.loop-strain.strain in
    let text_of : ℕ → List ℕ = (λ s. list_text (of_strain results s)) in
    let strains : List ℕ = range_with_len 0 5 in
    let before : List ℕ = c.loop-strain.text.bytes in
    let within : strain < 5 = c.loop-strain-test.true in
    let here : strain ≡ get_or strains strain 0 = (let from_zero : strain ≡ 0 + strain = omega arith in from_zero ∙ sym (get_or-range_with_len 0 5 strain 0 within)) in
    let head : List ℕ = c.args.text.now.bytes ++ codes "\"table\":[" in
    let slice : List ℕ = slice_range c.as_slice-tricks.result.now (4 * strain) (4 * strain + 4) in
    let same : slice ≡ of_strain results strain = ap (λ rs. slice_range rs (4 * strain) (4 * strain + 4)) c.as_slice-tricks.ensures.tricks in
    let pushed = c.push_list.ensures.bytes in
    let bound = c.push_list.ensures.bound in
    let short = c.loop-strain.invariant.short in
    elim c.if-strain-gt0.branch [
      | then-strain-gt0 w ↦ (
          let text : c.if-strain-gt0.text.bytes ≡ before ++ 44 ∷ [] = ap (λ (t : ArrayString). t.bytes) w.text-is ∙ w.push_str-then-strain-gt0.ensures.bytes in
          let longer = w.push_str-then-strain-gt0.ensures.len in
          let size = ap (λ (t : ArrayString). length t.bytes) w.text-is in
          record {
            written = pushed ∙ ap (λ t. t ++ list_text slice) text ∙ ap (λ rs. (before ++ 44 ∷ []) ++ list_text rs) same ∙ ap (λ n. (before ++ 44 ∷ []) ++ text_of n) here ∙ join-next 44 text_of strains strain 0 head before w.if-strain-gt0.true within c.loop-strain.invariant.written;
            short = omega arith;
          })
      | else-strain-gt0 w ↦ (
          let text : c.if-strain-gt0.text.bytes ≡ before = ap (λ (t : ArrayString). t.bytes) w.text-is in
          let size = ap (λ (t : ArrayString). length t.bytes) w.text-is in
          let none : strain ≡ 0 = (let k = w.if-strain-gt0.false in omega arith) in
          record {
            written = pushed ∙ ap (λ t. t ++ list_text slice) text ∙ ap (λ rs. before ++ list_text rs) same ∙ ap (λ n. before ++ text_of n) here ∙ join-first 44 text_of strains strain 0 head before none within c.loop-strain.invariant.written;
            short = omega arith;
          })
    ]
