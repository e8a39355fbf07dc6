use Rattle.dd_play.proofs.Boards.{legal-leads}
use Rattle.dd_play.proofs.Values.{cards_left-after}
use Rattle.dd_play.proofs.laws.play_keeps_positions.Goals as goal

pub returns : goal.returns
returns c = λ p card valid has. (let next = legal-leads p card valid has in (next.valid, cards_left-after p card valid has, next.tricks))
