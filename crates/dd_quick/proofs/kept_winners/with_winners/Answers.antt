use Rattle.dd_quick.proofs.KeptClaims.{run-reached}
use Rattle.dd_quick.proofs.kept_winners.with_winners.Goals as goal

pub returns-clause-rests : goal.returns-clause-rests
returns-clause-rests c = run-reached c.args.position.now c.args.seat c.args.suit c.run.result c.with_highest.result c.args.count c.run.ensures.cards c.with_highest.ensures.most
