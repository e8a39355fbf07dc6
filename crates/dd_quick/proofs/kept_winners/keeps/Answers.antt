use Rattle.std.proofs.Common.{arith, ◌∙◌, sym}
use Rattle.dd_quick.specs.QuickTricks.{no_trumps}
use Rattle.dd_quick.proofs.KeptClaims.{kept-none, kept-winners}
use Rattle.dd_quick.proofs.kept_winners.keeps.Goals as goal
use Rattle.std.proofs.lemmas.Bool.{not-true}

pub returns-then-has_trumps-clause-no : goal.returns-then-has_trumps-clause-no
returns-then-has_trumps-clause-no c some is = (let none = kept-none c.args.position.now c.args.seat (not-true (no_trumps c.args.position.now) (sym c.has_trumps.ensures ∙ c.if-has_trumps.true)) in omega (arith, some, none))

pub returns-then-all_winners-need-clause-no : goal.returns-then-all_winners-need-clause-no
returns-then-all_winners-need-clause-no c some is = (let most = kept-winners c.args.position.now c.args.seat in let few = c.if-all_winners-need.true in let all = c.all_winners.ensures in omega (arith, most, few, all))
