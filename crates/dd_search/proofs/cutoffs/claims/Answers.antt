use Rattle.std.proofs.Common.{◌-◌, ◌∙◌, ap, arith}
use Rattle.dd_cards.specs.Seats.{is_north_south}
use Rattle.dd_cards.specs.Sides.{side_of, other_side}
use Rattle.dd_play.specs.Board.{Board, tricks_left}
use Rattle.dd_play.specs.Reach.{reach, TakesBy}
use Rattle.dd_play.proofs.CallerLemmas.{by-fewer}
use Rattle.dd_rank.specs.Depths.{depth_in}
use Rattle.dd_rank.proofs.CallerLemmas.{told}
use Rattle.dd_search.proofs.Relied.{north-south-leads, east-west-leads}
use Rattle.dd_search.proofs.cutoffs.claims.Goals as goal
use Rattle.dd_search.proofs.cutoffs.claims.Goals.{After-is_north_south}

-- what the leader's side and the other side take
both : (c : After-is_north_south) → TakesBy (reach c.cards-cards.result) (side_of c.args.start.now.first) c.args.start.now c.args.interval.lo
    × TakesBy (reach c.cards-cards.result) (other_side (side_of c.args.start.now.first)) c.args.start.now c.saturating_sub.result
both c =
    let p = c.args.start.now in
    let i = c.args.interval in
    let claims = told c.cards-cards.result (depth_in c.args.depths) p i.lo i.hi c.cards-cards.ensures.real c.position-position.ensures.start c.cards-cards.ensures.depths c.requires.holds in
    let rest = c.saturating_sub.ensures ∙ ap (λ n. n - i.hi) (c.tricks_left.ensures.tricks ∙ ap tricks_left c.position-position.ensures.value) in
    (claims.0, by-fewer (reach c.cards-cards.result) (other_side (side_of p.first)) p (tricks_left p - i.hi) c.saturating_sub.result claims.1 (omega (arith, rest)))

pub returns-then-is_north_south : goal.returns-then-is_north_south
returns-then-is_north_south c =
    north-south-leads c.args.start.now c.cards-cards.result c.args.interval.lo c.saturating_sub.result c.is_north_south.result
    (c.is_north_south.ensures ∙ ap is_north_south (c.first.ensures ∙ ap (λ (q : Board). q.first) c.position-position.ensures.value)) c.if-is_north_south.true
    (both (goal.at.returns-then-is_north_south c).After-is_north_south)

pub returns-else-is_north_south : goal.returns-else-is_north_south
returns-else-is_north_south c =
    east-west-leads c.args.start.now c.cards-cards.result c.args.interval.lo c.saturating_sub.result c.is_north_south.result
    (c.is_north_south.ensures ∙ ap is_north_south (c.first.ensures ∙ ap (λ (q : Board). q.first) c.position-position.ensures.value)) c.if-is_north_south.false
    (both (goal.at.returns-else-is_north_south c).After-is_north_south)
