use Rattle.std.proofs.Common.{◌∙◌, ◌+◌, arith, subst, sym}
use Rattle.dd_quick.proofs.Highest.{IsTaken, all-taken, none-taken, one-taken, taken-most}
use Rattle.dd_quick.proofs.winners.with_highest.Goals as goal
use Rattle.dd_quick.proofs.winners.with_highest.Goals.{in-Some, in_default}

pub loop-init : goal.loop-init
loop-init c = none-taken c.args.suit c.args.cards c.args.ranks c.holding.ensures.real

pub loop-preserved : goal.loop-preserved
loop-preserved c = elim c.match-pop_highest.branch [
  | in-Some w ↦ subst (λ kept. IsTaken c.args.suit c.args.cards c.args.ranks kept c.pop_highest.new.self (c.loop.counter + 1)) (sym (w.cards-is ∙ w.with-cards.ensures))
      (one-taken c.args.suit c.args.cards c.args.ranks c.loop.cards c.loop.rest c.loop.counter w.in-Some.rank c.pop_highest.new.self c.loop.invariant w.in-Some.ensures
      (let e = w.code.ensures.value in let low = w.code.ensures.low in let high = w.code.ensures.high in (omega (arith, e, low), omega (arith, e, high))))
  | in_default w ↦ subst (λ kept. IsTaken c.args.suit c.args.cards c.args.ranks kept c.pop_highest.new.self (c.loop.counter + 1)) (sym w.cards-is)
      (all-taken c.args.suit c.args.cards c.args.ranks c.loop.cards c.loop.rest c.loop.counter c.pop_highest.new.self c.loop.invariant w.in_default.ensures.0 w.in_default.ensures.1)
]

pub returns-clause-more : goal.returns-clause-more
returns-clause-more c = c.loop.invariant.more

pub returns-clause-most : goal.returns-clause-most
returns-clause-most c = taken-most c.args.suit c.args.cards c.args.ranks c.loop.cards c.loop.rest c.loop.counter c.args.count c.loop.invariant c.loop-test.false
