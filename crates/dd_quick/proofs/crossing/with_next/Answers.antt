use Rattle.dd_quick.proofs.Reached.{next-reached}
use Rattle.dd_quick.proofs.crossing.with_next.Goals as goal

pub returns-clause-next : goal.returns-clause-next
returns-clause-next c = next-reached c.args.position.now c.args.suit c.next_run.result c.with_highest.result c.args.tricks c.next_run.ensures.cards c.with_highest.ensures.most
