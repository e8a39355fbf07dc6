use Rattle.std.proofs.Common.{◌≡◌, ℕ, ◌<◌, ◌++◌, ◌∷◌, [], ◌∙◌, ap, arith, List, length}
use Rattle.arrayvec.specs.ArrayString.{ArrayString}
use Rattle.dd_score.specs.declared.par_contract.ParContract.{ParContract}
use Rattle.dd_wire.specs.ParReplies.{contract_text}
use Rattle.dd_wire.proofs.Texts.{join-first, join-next}
use Rattle.dd_wire.proofs.par_reply.push_contracts.Goals as goal
use Rattle.dd_wire.proofs.par_reply.push_contracts.Goals.{then-place-gt0, else-place-gt0}

pub loop-place-preserved : goal.loop-place-preserved
loop-place-preserved c =
    let items : List ParContract = c.args.contracts.now in
    let place : ℕ = c.loop-place.place in
    let head : List ℕ = c.args.text.now.bytes in
    let before : List ℕ = c.loop-place.text.bytes in
    let within : place < length items = c.loop-place-test.true in
    let bound = c.push_contract.ensures.bound in
    let short = c.loop-place.invariant.short in
    elim c.if-place-gt0.branch [
      | then-place-gt0 w ↦ (
          let text : c.if-place-gt0.text.bytes ≡ before ++ 44 ∷ [] = ap (λ (t : ArrayString). t.bytes) w.text-is ∙ w.push_str.ensures.bytes in
          let longer = w.push_str.ensures.len in
          let size = ap (λ (t : ArrayString). length t.bytes) w.text-is in
          let pushed = rw text at c.push_contract.ensures.bytes in
          record {
            written = pushed ∙ join-next 44 contract_text items place _ head before w.if-place-gt0.true within c.loop-place.invariant.written;
            short = omega arith;
          })
      | else-place-gt0 w ↦ (
          let text : c.if-place-gt0.text.bytes ≡ before = ap (λ (t : ArrayString). t.bytes) w.text-is in
          let size = ap (λ (t : ArrayString). length t.bytes) w.text-is in
          let none : place ≡ 0 = (let k = w.if-place-gt0.false in omega arith) in
          let pushed = rw text at c.push_contract.ensures.bytes in
          record {
            written = pushed ∙ join-first 44 contract_text items place _ head before none within c.loop-place.invariant.written;
            short = omega arith;
          })
    ]
