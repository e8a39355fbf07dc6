use Rattle.std.proofs.Common.{◌≡◌, true}
use Rattle.dd_cards.specs.Ranks.{has_rank}
use Rattle.dd_order.proofs.Choices.{if-some, rank-among, first-among}
use Rattle.dd_order.proofs.follow.Following.best_rank.Goals as goal

pub returns-then-not-is_empty : goal.returns-then-not-is_empty
returns-then-not-is_empty c =
    if-some (λ r. has_rank c.intersection-first.result r ≡ true) (λ r. has_rank c.args.ranks r ≡ true) (λ r has. rank-among c.args.ranks _ c.intersection-first.result r c.intersection-first.ensures has) c.lowest.result c.lowest.ensures

pub returns-then-self : goal.returns-then-self
returns-then-self c =
    if-some (λ r. has_rank c.intersection-second.result r ≡ true) (λ r. has_rank c.args.ranks r ≡ true) (λ r has. rank-among c.args.ranks _ c.intersection-second.result r c.intersection-second.ensures has) c.highest.result
    (first-among c.intersection-second.result c.highest.result c.highest.ensures)

pub returns-else-self : goal.returns-else-self
returns-else-self c =
    if-some (λ r. has_rank c.intersection-second.result r ≡ true) (λ r. has_rank c.args.ranks r ≡ true) (λ r has. rank-among c.args.ranks _ c.intersection-second.result r c.intersection-second.ensures has) c.lowest-else-self.result c.lowest-else-self.ensures

pub returns-else-is_empty : goal.returns-else-is_empty
returns-else-is_empty c =
    if-some (λ r. has_rank c.intersection-third.result r ≡ true) (λ r. has_rank c.args.ranks r ≡ true) (λ r has. rank-among c.args.ranks _ c.intersection-third.result r c.intersection-third.ensures has) c.lowest-else-is_empty.result c.lowest-else-is_empty.ensures
