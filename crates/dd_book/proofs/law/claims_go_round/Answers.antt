use Rattle.dd_book.proofs.Rounds.{claims-go_round}
use Rattle.dd_book.proofs.law.claims_go_round.Goals as goal

pub returns : goal.returns
returns c = claims-go_round
