use Rattle.std.proofs.Common.{subst}
use Rattle.std.specs.Prelude.{IfSome, IsSome}
use Rattle.dd_cards.specs.Sides.{side_of}
use Rattle.dd_play.specs.Board.{Board}
use Rattle.dd_play.specs.Reach.{TakesBy, reach}
use Rattle.dd_quick.specs.QuickTricks.{CanShare}
use Rattle.dd_quick.proofs.told_shares.for_leader_by.Goals as goal

pub returns-clause-found : goal.returns-clause-found
returns-clause-found c = subst (λ (p : Board). CanShare p c.args.told.spades c.args.told.hearts c.args.told.diamonds c.args.told.clubs c.args.need → IsSome c.told_cards.result) c.position-position.ensures.value c.told_cards.ensures.found

pub returns-clause-claim : goal.returns-clause-claim
returns-clause-claim c = subst (λ (p : Board). IfSome c.told_cards.result (λ cards. TakesBy (reach cards) (side_of p.first) p c.args.need)) c.position-position.ensures.value c.told_cards.ensures.leads
