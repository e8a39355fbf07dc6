use Rattle.dd_book.proofs.Lists.{first-are-own}
use Rattle.dd_book.proofs.job.Job.new.Goals as goal

pub invariant_of-result : goal.invariant_of-result
invariant_of-result c = first-are-own c.args.asked c.in-Ok.parts c.in-Ok.ensures.parts
