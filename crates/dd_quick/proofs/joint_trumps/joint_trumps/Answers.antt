use Rattle.std.proofs.Common.{arith, length, min, ◌-◌, ◌∙◌, sym}
use Rattle.std.specs.Prelude.{filter, nat_le}
use Rattle.dd_quick.proofs.Sound.{greatest-least}
use Rattle.dd_quick.proofs.Sequences.{sides-apart}
use Rattle.dd_quick.proofs.TrumpRanks.{joint-is, their-ranks}
use Rattle.dd_quick.proofs.joint_trumps.joint_trumps.Goals as goal

pub returns-clause-tricks : goal.returns-clause-tricks
returns-clause-tricks c =
    let p = c.args.position.now in
    let t = c.in-Trump.trump in
    joint-is p.strain p c.args.seat t c.of_side-ours.result c.of_side-theirs.result c.longer.result c.most_taken.result (sym c.strain.ensures ∙ c.in-Trump.is) c.of_side-ours.ensures.real
    c.of_side-ours.ensures.from (λ r. c.of_side-theirs.ensures.from r ∙ their-ranks p c.args.seat c.left-left.result t r c.left-left.ensures) c.longer.ensures.longer c.most_taken.ensures.most

pub returns-clause-bound : goal.returns-clause-bound
returns-clause-bound c =
    let most = greatest-least (λ rank. min (length (filter (nat_le rank) c.of_side-ours.result)) c.longer.result - length (filter (nat_le rank) c.of_side-theirs.result)) c.of_side-ours.result c.longer.result (λ r. omega arith) in
    let is = c.most_taken.ensures.most in
    let few = c.longer.ensures.bound in
    omega (arith, most, is, few)

pub most_taken-requires-clause-apart : goal.most_taken-requires-clause-apart
most_taken-requires-clause-apart c = sides-apart c.args.position.now c.args.seat c.left-left.result c.in-Trump.trump c.of_side-ours.result c.of_side-theirs.result c.of_side-ours.ensures.board c.left-left.ensures c.of_side-ours.ensures.held c.of_side-theirs.ensures.held
