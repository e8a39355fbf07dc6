use Rattle.std.proofs.Common.{true}
use Rattle.dd_book.proofs.Places.{sets-only}
use Rattle.dd_book.proofs.waiting.put.Goals as goal

pub returns-clause-ok : goal.returns-clause-ok
returns-clause-ok c = sets-only c.args.waiting.now c.insert.new.self c.args.owner c.args.place true c.in_ok-insert.ensures.updates
