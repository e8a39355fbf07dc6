use Rattle.std.proofs.Common.{◌≡◌, ◌≤◌, ◌-◌, true, ap, ◌∙◌, subst, List}
use Rattle.dd_cards.specs.declared.suit.Suit.{Suit}
use Rattle.dd_cards.specs.PlayingCard.{PlayingCard}
use Rattle.dd_cards.specs.Ranks.{IsRank}
use Rattle.dd_cards.specs.Cards.{has_card}
use Rattle.dd_play.specs.Reach.{reach, TakesBy}
use Rattle.dd_cards.specs.Seats.{is_north_south}
use Rattle.dd_cards.specs.declared.side.Side.TheVariants.{NorthSouth, EastWest}
use Rattle.dd_play.specs.Board.{Board, tricks_left}
use Rattle.dd_rank.specs.Depths.{depth_in, depths_of}
use Rattle.dd_search.specs.ClaimsBy.{ClaimBy}
use Rattle.dd_search.proofs.Relied.{IsStartValue, start-north-south, start-east-west, start-covered}
use Rattle.dd_search.proofs.start.start_value_in_order.Goals as goal
use Rattle.dd_search.proofs.start.start_value_in_order.Goals.{After-is_north_south}

-- what was found
found : (g : _) (c : After-is_north_south g) → IsStartValue c.args.start.now c.in_ok-found.found.tricks c.in_ok-found.found.cards (depth_in c.of_cards-depths.result)
found g c =
    let p = c.args.start.now in
    let same = ap (λ (a : ClaimBy). a.cards) c.found.view_is in
    record {
      exactly = record {
        valid = c.position-position.ensures.board;
        theirs = subst (λ (q : Board). TakesBy (reach c.in_ok-found.found.cards) NorthSouth q c.in_ok-found.found.tricks) c.position-position.ensures.value c.in_ok-found.ensures.theirs;
        others = subst (λ (q : Board). TakesBy (reach c.in_ok-found.found.cards) EastWest q (tricks_left q - c.in_ok-found.found.tricks)) c.position-position.ensures.value c.in_ok-found.ensures.others;
        within = subst (λ (q : Board). c.in_ok-found.found.tricks ≤ tricks_left q) c.position-position.ensures.value c.in_ok-found.ensures.within;
      };
      start = c.position-position.ensures.start;
      real = subst (λ (cards : List PlayingCard). (d : PlayingCard) → has_card cards d ≡ true → IsRank d.rank) same c.of_cards-depths.ensures.real;
      deep = subst (λ (cards : List PlayingCard). (u : Suit) → depth_in c.of_cards-depths.result u ≡ depths_of (reach cards) p u) same c.of_cards-depths.ensures.depths;
      within = c.of_cards-depths.ensures.within;
    }

pub returns-then-is_north_south-clause-value : goal.returns-then-is_north_south-clause-value
returns-then-is_north_south-clause-value g c =
    ap (λ (a : ClaimBy). a.tricks) c.found.view_is
    ∙ start-north-south c.args.start.now c.in_ok-found.found.tricks c.in_ok-found.found.cards (depth_in c.of_cards-depths.result) c.is_north_south.result (found g (goal.at.returns-then-is_north_south-clause-value g c).After-is_north_south)
    (c.is_north_south.ensures ∙ ap is_north_south (c.first.ensures ∙ ap (λ (q : Board). q.first) c.position-position.ensures.value)) c.if-is_north_south.true

pub returns-then-is_north_south-clause-depths : goal.returns-then-is_north_south-clause-depths
returns-then-is_north_south-clause-depths g c = start-covered _ _ _ _ (found g (goal.at.returns-then-is_north_south-clause-depths g c).After-is_north_south)

pub returns-else-is_north_south-clause-value : goal.returns-else-is_north_south-clause-value
returns-else-is_north_south-clause-value g c =
    ap (λ n. n - c.found.inside.tricks) (c.tricks_left.ensures.tricks ∙ ap tricks_left c.position-position.ensures.value)
    ∙ ap (λ (a : ClaimBy). tricks_left c.args.start.now - a.tricks) c.found.view_is
    ∙ start-east-west c.args.start.now c.in_ok-found.found.tricks c.in_ok-found.found.cards (depth_in c.of_cards-depths.result) c.is_north_south.result (found g (goal.at.returns-else-is_north_south-clause-value g c).After-is_north_south)
    (c.is_north_south.ensures ∙ ap is_north_south (c.first.ensures ∙ ap (λ (q : Board). q.first) c.position-position.ensures.value)) c.if-is_north_south.false

pub returns-else-is_north_south-clause-depths : goal.returns-else-is_north_south-clause-depths
returns-else-is_north_south-clause-depths g c = start-covered _ _ _ _ (found g (goal.at.returns-else-is_north_south-clause-depths g c).After-is_north_south)
