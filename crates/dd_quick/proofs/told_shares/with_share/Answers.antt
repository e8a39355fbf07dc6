use Rattle.std.proofs.Common.{arith}
use Rattle.dd_quick.proofs.told_shares.with_share.Goals as goal

pub returns-then-tricks-eq0-clause-few : goal.returns-then-tricks-eq0-clause-few
returns-then-tricks-eq0-clause-few c = (let none = c.if-tricks-eq0.true in omega (arith, none))

pub returns-then-tricks-eq0-clause-rests : goal.returns-then-tricks-eq0-clause-rests
returns-then-tricks-eq0-clause-rests c = (let none = c.if-tricks-eq0.true in omega (arith, none))
