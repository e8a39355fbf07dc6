use Rattle.std.proofs.Common.{◌≡◌, refl, subst}
use Rattle.std.specs.Prelude.{filter, map}
use Rattle.dd_cards.specs.declared.seat.Seat.{Seat}
use Rattle.dd_cards.specs.declared.seat.Seat.TheVariants.{North, East, South, West}
use Rattle.dd_cards.specs.Cards.{is_of, card_of}
use Rattle.dd_cards.specs.Seats.{seat_after}
use Rattle.dd_play.specs.Board.{cards_at}
use Rattle.dd_quick.proofs.Runs.{ahead-cards}
use Rattle.dd_quick.proofs.winners.right_ahead.Goals as goal

-- the partner of the right opponent is the left one
round : (seat : Seat) → seat_after seat 1 ≡ seat_after (seat_after seat 3) 2
round North = refl
round East = refl
round South = refl
round West = refl

pub returns : goal.returns
returns c p suit are =
    let ranks = c.args.ranks.now in
    let left = subst (λ x. map (card_of suit) ranks.left ≡ filter (is_of suit) (cards_at p x)) (round p.first) are.of_left in
    ahead-cards p (seat_after p.first 3) suit ranks.right ranks.left c.above_all.result are.valid are.of_right left c.above_all.ensures
