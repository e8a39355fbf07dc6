use Rattle.std.proofs.Common.{◌≡◌, ap, sym, ◌∙◌, length, map}
use Rattle.std.specs.List.{range_with_len}
use Rattle.std.proofs.lemmas.Bool.{eqb-true}
use Rattle.dd_request.specs.Results.{part_result}
use Rattle.dd_request.proofs.Parts.{length-parts, parts-all}
use Rattle.dd_request.proofs.solved_table.are_all_parts.Goals as goal

pub returns-then-parts-eq-RESULTS : goal.returns-then-parts-eq-RESULTS
returns-then-parts-eq-RESULTS c =
    let hands = c.args.request.now in
    let twenty : length c.args.parts.now ≡ 20 = c.if-parts-eq-RESULTS.true in
    let numbered = ap (λ n. map (part_result hands) (range_with_len 0 n)) twenty ∙ sym (parts-all hands) in (
      (λ first. c.are_first_parts.ensures.0 first ∙ numbered),
      (λ parts. c.are_first_parts.ensures.1 (parts ∙ sym numbered)),
    )

pub returns-else-parts-eq-RESULTS : goal.returns-else-parts-eq-RESULTS
returns-else-parts-eq-RESULTS c = (
  (λ twenty. absurd (c.if-parts-eq-RESULTS.false (eqb-true _ _ twenty))),
  (λ parts. absurd (c.if-parts-eq-RESULTS.false (ap length parts ∙ length-parts c.args.request.now))),
)
