use Rattle.dd_book.proofs.Newcomers.{newcomers-come_last}
use Rattle.dd_book.proofs.law.newcomers_come_last.Goals as goal

pub returns : goal.returns
returns c = newcomers-come_last
