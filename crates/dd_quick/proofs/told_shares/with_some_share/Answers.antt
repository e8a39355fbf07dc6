use Rattle.std.proofs.Common.{◌≤◌, arith, length, min, subst}
use Rattle.std.specs.Prelude.{filter}
use Rattle.dd_cards.specs.Cards.{card_of, has_card}
use Rattle.dd_quick.specs.QuickTricks.{RestsOn}
use Rattle.dd_quick.proofs.Reached.{winners-reached}
use Rattle.dd_quick.proofs.told_shares.with_some_share.Goals as goal

pub returns-then-cash-tricks-clause-found : goal.returns-then-cash-tricks-clause-found
returns-then-cash-tricks-clause-found c few = absurd (let less = c.if-cash-tricks.true in let counted = c.cash_suit-cash.ensures.cash.0 in omega (arith, less, counted, few))

pub returns-clause-few : goal.returns-clause-few
returns-clause-few c = (let many = c.if-cash-tricks.false in let counted = c.cash_suit-cash.ensures.cash.0 in omega (arith, many, counted))

pub returns-clause-bound : goal.returns-clause-bound
returns-clause-bound c = (let many = c.if-cash-tricks.false in let bound = c.cash_suit-cash.ensures.bound in omega (arith, many, bound))

pub returns-clause-rests : goal.returns-clause-rests
returns-clause-rests c =
    let p = c.args.position.now in
    let u = c.args.suit in
    let same = c.own_run.ensures p p.first u (c.ranks_of-ranks.ensures p c.requires.seen) in
    let most = subst (λ n. min n (length c.own_run.result) ≤ length (filter (λ q. has_card c.with_highest.result (card_of u q)) c.own_run.result)) c.min-count.ensures c.with_highest.ensures.most in
    let rests = winners-reached p u c.own_run.result c.with_highest.result (min c.args.tricks c.cash_suit-cash.result.depth) same most in
    let many = c.if-cash-tricks.false in
    let some = c.requires.some in
    subst (λ n. RestsOn p u c.with_highest.result (min c.args.tricks n)) (c.cash_suit-cash.ensures.cash.1 (omega (arith, many, some))) rests
