use Rattle.dd_cards.specs.Seats.{seat_after}
use Rattle.dd_quick.proofs.Runs.{ahead-cards}
use Rattle.dd_quick.proofs.winners.left_ahead.Goals as goal

pub returns : goal.returns
returns c p suit are = ahead-cards p (seat_after p.first 1) suit c.args.ranks.now.left c.args.ranks.now.right c.above_all.result are.valid are.of_left are.of_right c.above_all.ensures
