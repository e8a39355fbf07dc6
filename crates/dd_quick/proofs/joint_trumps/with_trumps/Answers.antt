use Rattle.std.proofs.Common.{arith, length, min, ℕ, ◌-◌, ◌∙◌, refl, sym}
use Rattle.std.specs.Prelude.{filter, nat_le}
use Rattle.dd_quick.specs.QuickTricks.{greatest}
use Rattle.dd_quick.proofs.TrumpRanks.{joint-is, none-rest, rank-rests, their-ranks}
use Rattle.dd_quick.proofs.joint_trumps.with_trumps.Goals as goal

pub returns-in-Some-clause-trumps : goal.returns-in-Some-clause-trumps
returns-in-Some-clause-trumps c few =
    let p = c.args.position.now in
    let t = c.in-Trump.trump in
    rank-rests p.strain p c.args.seat t c.of_side-ours.result c.of_side-theirs.result c.longer.result c.args.tricks c.in-Some.rank c.with_trump.result (sym c.strain.ensures ∙ c.in-Trump.is)
    c.of_side-ours.ensures.from (λ r. c.of_side-theirs.ensures.from r ∙ their-ranks p c.args.seat c.left-left.result t r c.left-left.ensures) c.longer.ensures.longer c.in-Some.ensures c.with_trump.ensures.there

pub returns-in-None-clause-trumps : goal.returns-in-None-clause-trumps
returns-in-None-clause-trumps c few =
    let p = c.args.position.now in
    let t = c.in-Trump.trump in
    let f : ℕ → ℕ = λ rank. min (length (filter (nat_le rank) c.of_side-ours.result)) c.longer.result - length (filter (nat_le rank) c.of_side-theirs.result) in
    let joint = joint-is p.strain p c.args.seat t c.of_side-ours.result c.of_side-theirs.result c.longer.result (greatest f c.of_side-ours.result) (sym c.strain.ensures ∙ c.in-Trump.is) c.of_side-ours.ensures.real
    c.of_side-ours.ensures.from (λ r. c.of_side-theirs.ensures.from r ∙ their-ranks p c.args.seat c.left-left.result t r c.left-left.ensures) c.longer.ensures.longer refl in
    none-rest p.strain p c.args.seat c.args.cards c.args.tricks (c.in-None.ensures (omega (arith, few, joint)))
