use Rattle.std.proofs.Common.{◌≡◌, refl, arith, ap, sym, ◌∙◌, length, map}
use Rattle.dd_request.specs.Results.{PartResult, all_parts, results}
use Rattle.dd_request.proofs.Parts.{length-parts, parts-all, part-at, results-all}
use Rattle.dd_request.proofs.solved_table.SolvedTable.of.Goals as goal

pub returns-in_default-clause-none : goal.returns-in_default-clause-none
returns-in_default-clause-none c hands parts =
    let few = c.in_default.len_below in
    let twenty = ap length parts ∙ length-parts hands in
    omega (arith, few, twenty)

pub returns-then-not-are_all_parts-clause-none : goal.returns-then-not-are_all_parts-clause-none
returns-then-not-are_all_parts-clause-none c hands parts =
    let first = part-at hands c.args.parts.now 20 0 c.first-item.result (omega arith) c.first-item.is (parts ∙ parts-all hands) in
    let request : c.request-request.result.now ≡ hands = c.request-request.ensures ∙ ap (λ (p : PartResult). p.hands) first in
    let impossible = c.if-not-are_all_parts.ensures.1 (parts ∙ ap all_parts (sym request)) in
    cc

pub results_of-requires : goal.results_of-requires
results_of-requires c = ap length (c.if-not-are_all_parts.ensures.0 refl) ∙ length-parts c.request-request.result.now

pub invariant_of-result : goal.invariant_of-result
invariant_of-result c =
    c.results_of.ensures ∙ ap (map (λ (p : PartResult). p.tricks)) (c.if-not-are_all_parts.ensures.0 refl)
    ∙ results-all c.request-request.result.now ∙ ap results (sym c.copy.ensures.same)

pub returns-clause-some : goal.returns-clause-some
returns-clause-some c =
    let same : c.copy.result ≡ c.request-request.result.now = c.copy.ensures.same in
    let found = c.results_of.ensures ∙ ap (map (λ (p : PartResult). p.tricks)) (c.if-not-are_all_parts.ensures.0 refl)
    ∙ results-all c.request-request.result.now ∙ ap results (sym same) in
    (c.if-not-are_all_parts.ensures.0 refl ∙ ap all_parts (sym same), ap (λ rs. record { hands = c.copy.result; results = rs }) found)
