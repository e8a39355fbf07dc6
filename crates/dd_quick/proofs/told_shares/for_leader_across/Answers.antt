use Rattle.std.proofs.Common.{subst}
use Rattle.std.specs.Prelude.{IfSome}
use Rattle.dd_cards.specs.Sides.{side_of}
use Rattle.dd_play.specs.Board.{Board}
use Rattle.dd_play.specs.Reach.{TakesBy, reach}
use Rattle.dd_quick.proofs.told_shares.for_leader_across.Goals as goal

pub returns : goal.returns
returns c = subst (λ (p : Board). IfSome c.told_across.result (λ cards. TakesBy (reach cards) (side_of p.first) p c.args.need)) c.position-position.ensures.value c.told_across.ensures.leads
