use Rattle.std.proofs.Common.{ap, sym, subst, ◌∙◌}
use Rattle.dd_play.specs.Positions.{CanPlay}
use Rattle.dd_request.specs.Targets.{TargetQuestion, reaching}
use Rattle.dd_request.proofs.solved_target.SolvedTarget.copy.Goals as goal

pub invariant_of-result : goal.invariant_of-result
invariant_of-result c = (
  c.copy-2.ensures ∙ c.self.invariant.0 ∙ ap (λ (asked : TargetQuestion). reaching asked.board asked.target asked.solutions) (sym c.copy.ensures.same),
  subst (λ (asked : TargetQuestion). CanPlay asked.board) (sym c.copy.ensures.same) c.copy.ensures.play,
)
