use Rattle.std.proofs.Common.{◌<◌, ap, sym, subst, arith, length}
use Rattle.dd_book.specs.Jobs.{JobOf, parts_of}
use Rattle.dd_book.proofs.Lists.{within-play}
use Rattle.dd_book.proofs.job.Job.claimed.Goals as goal

pub overflow_cast-result-in-Play : goal.overflow_cast-result-in-Play
overflow_cast-result-in-Play c =
    let within : c.args.part < length (parts_of c.self.inside.stage) = subst (λ (j : JobOf). c.args.part < length (parts_of j.stage)) (sym c.self.view_is) c.requires in
    let few = within-play c.self.inside.asked c.in-Play.request c.self.inside.stage c.args.part c.in-Play.is c.self.invariant within in
    let most = c.cards.ensures.most in
    let same = ap length c.cards.ensures.value in
    omega (arith, few, most, same)
