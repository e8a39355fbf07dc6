use Rattle.std.proofs.Common.{arith, sym, ◌∙◌}
use Rattle.dd_quick.proofs.Reached.{next-reached}
use Rattle.dd_quick.proofs.told_shares.with_some_next.Goals as goal

pub returns-clause-few : goal.returns-clause-few
returns-clause-few c = (let many = c.if-offer-tricks.false in let counted = c.next-offer.ensures.next.0 in omega (arith, many, counted))

pub returns-clause-bound : goal.returns-clause-bound
returns-clause-bound c = (let many = c.if-offer-tricks.false in let bound = c.next-offer.ensures.bound in omega (arith, many, bound))

pub returns-clause-rests : goal.returns-clause-rests
returns-clause-rests c =
    let p = c.args.position.now in
    let same = c.partners_run.ensures p c.args.suit (c.ranks_of-ranks.ensures p c.requires.seen) in
    next-reached p c.args.suit c.partners_run.result c.with_highest-cards.result c.args.tricks same c.with_highest-cards.ensures.most

pub returns-clause-entry : goal.returns-clause-entry
returns-clause-entry c = λ entry. (sym c.next-offer.ensures.next.1 ∙ entry, c.requires.some)

pub returns-clause-all : goal.returns-clause-all
returns-clause-all c = λ some. (let same = c.if-told-cash.false in let counted = c.cash_suit-cash.ensures.cash.0 in omega (arith, same, counted))
