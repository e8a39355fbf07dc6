use Rattle.dd_book.proofs.Places.{first-of_all}
use Rattle.dd_book.proofs.waiting.first_of.Goals as goal

pub returns : goal.returns
returns c = first-of_all c.args.waiting.now c.args.owner c.next_of.result c.next_of.ensures
