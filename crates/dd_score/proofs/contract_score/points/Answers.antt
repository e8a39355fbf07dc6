use Rattle.std.proofs.Common.{ap, sym, ◌∙◌, pos, neg_ℤ}
use Rattle.dd_score.proofs.PointLemmas.{points-made, points-failed, held, held_turned}
use Rattle.dd_score.proofs.contract_score.points.Goals as goal

pub returns-then-needed-tricks-clause-value : goal.returns-then-needed-tricks-clause-value
returns-then-needed-tricks-clause-value c =
    held _ c.made.ensures.bound ∙ ap pos c.made.ensures.value ∙ sym (points-made _ _ _ _ _ c.if-needed-tricks.true)

pub returns-else-needed-tricks-clause-value : goal.returns-else-needed-tricks-clause-value
returns-else-needed-tricks-clause-value c =
    held_turned _ c.not_made.ensures.bound ∙ ap (λ n. neg_ℤ (pos n)) c.not_made.ensures.value ∙ sym (points-failed _ _ _ _ _ c.if-needed-tricks.false)
