use Rattle.std.proofs.Common.{◌∙◌}
use Rattle.dd_play.proofs.HandsAfter.{taken-out}
use Rattle.dd_play.proofs.position.Position.hands_without.Goals as goal

pub returns-clause-hands : goal.returns-clause-hands
returns-clause-hands c = c.without.ensures ∙ rw (← c.self.view_is) (taken-out _ c.args.card c.self.invariant.2 (rw (← c.self.view_is) at c.requires))
