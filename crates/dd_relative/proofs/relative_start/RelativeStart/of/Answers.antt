use Rattle.std.proofs.Common.{◌≡◌, ap, ◌∙◌, subst}
use Rattle.std.specs.Prelude.{filter}
use mathlib.Core.Bool.{not}
use Rattle.dd_cards.specs.Cards.{has_card}
use Rattle.dd_play.specs.Board.{Board}
use Rattle.dd_rank.specs.Alike.{IsAlike}
use Rattle.dd_relative.specs.Relative.{led_by_north}
use Rattle.dd_relative.specs.Turned.{from_leader}
use Rattle.dd_relative.proofs.Starts.{start-gapped, start-same}
use Rattle.dd_relative.proofs.Turned.{alike-turned}
use Rattle.dd_relative.proofs.relative_start.RelativeStart.of.Goals as goal
use Rattle.dd_relative.proofs.relative_start.RelativeStart.of.Goals.{After-strain}

-- the hands that the code takes are those from the leader on
same : (c : After-strain) → led_by_north c.hand-leader.result c.hand-second.result c.hand-third.result c.hand-fourth.result c.strain.result ≡ from_leader c.args.start.now
same c =
    start-same c.args.start.now c.hands-hands.result.now c.first-first_seat.result c.next-second_seat.result c.next-third_seat.result c.next-fourth_seat.result
    c.hand-leader.result c.hand-second.result c.hand-third.result c.hand-fourth.result c.strain.result
    (c.hands-hands.ensures.hands ∙ ap (λ (b : Board). b.hands) c.position-position.ensures.value) (c.first-first_seat.ensures ∙ ap (λ (b : Board). b.first) c.position-position.ensures.value)
    c.next-second_seat.ensures c.next-third_seat.ensures c.next-fourth_seat.ensures c.hand-leader.ensures.hand c.hand-second.ensures.hand c.hand-third.ensures.hand c.hand-fourth.ensures.hand
    (c.strain.ensures ∙ ap (λ (b : Board). b.strain) c.position-position.ensures.value)

pub closed_up-requires : goal.closed_up-requires
closed_up-requires c =
    let at = goal.at.closed_up-requires c in
    start-gapped c.args.start.now c.hand-leader.result c.hand-second.result c.hand-third.result c.hand-fourth.result c.union.result c.union-2.result c.union-left.result c.difference-gaps.result c.strain.result
    c.position-position.ensures.board c.position-position.ensures.start (same at.After-strain) c.union.ensures.cards c.union-2.ensures.cards c.union-left.ensures.cards
    (c.difference-gaps.ensures ∙ ap (filter (λ x. not (has_card c.union-left.result x))) c.pack.ensures)

pub returns : goal.returns
returns c =
    let at = goal.at.returns c in
    alike-turned c.args.start.now c.closed_up.result c.position-position.ensures.start (subst (λ (b : Board). IsAlike b c.closed_up.result) (same at.After-strain) c.closed_up.ensures)
