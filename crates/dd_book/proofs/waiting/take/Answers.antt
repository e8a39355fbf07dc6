use Rattle.std.proofs.Common.{false}
use Rattle.dd_book.proofs.Places.{sets-only}
use Rattle.dd_book.proofs.waiting.take.Goals as goal

pub returns : goal.returns
returns c = sets-only c.args.waiting.now c.remove.new.self c.args.owner c.args.place false c.remove.ensures.updates
