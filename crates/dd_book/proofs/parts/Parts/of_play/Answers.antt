use Rattle.std.proofs.Common.{◌≡◌, ◌+◌, ◌++◌, ◌∷◌, [], ◌∙◌, ap, sym, arith, length, List}
use Rattle.std.specs.Prelude.{slice_set}
use Rattle.dd_book.specs.declared.parts.Part.{Part}
use Rattle.dd_book.specs.declared.parts.Part.TheVariants.{Number}
use Rattle.dd_book.specs.Parts.{all_waiting}
use Rattle.dd_book.proofs.Lists.{last-known, last-left, last-set, last-waits, length-all_waiting}
use Rattle.dd_book.proofs.parts.Parts.of_play.Goals as goal
use Rattle.dd_book.proofs.parts.Parts.of_play.Goals.{in-None, in-Some}

pub set-requires : goal.set-requires
set-requires c = let many = ap length c.in_ok-parts.ensures.parts ∙ length-all_waiting _ in omega (arith, many)

pub returns-clause-parts : goal.returns-clause-parts
returns-clause-parts c =
    let n = length c.cards-last.result.now in
    let all = length c.args.request.now.cards in
    let many : n ≡ all = ap length c.cards-last.ensures.value in
    elim c.match-last_number.branch [
      | in-Some w ↦
          w.parts-is ∙ w.set.ensures ∙ ap (λ (ps : List Part). slice_set ps n (Number w.in-Some.tricks)) c.in_ok-parts.ensures.parts ∙ last-set n (Number w.in-Some.tricks)
          ∙ ap (λ k. all_waiting k ++ Number w.in-Some.tricks ∷ []) many
          ∙ ap (λ p. all_waiting all ++ p ∷ []) (last-known c.args.request.now w.in-Some.tricks w.in-Some.ensures.0 w.in-Some.ensures.1)
      | in-None w ↦
          w.parts-is ∙ c.in_ok-parts.ensures.parts ∙ ap (λ k. all_waiting (k + 1)) many ∙ last-left all
          ∙ ap (λ p. all_waiting all ++ p ∷ []) (sym (last-waits c.args.request.now w.in-None.ensures))
    ]
