use Rattle.std.proofs.Common.{arith}
use Rattle.dd_rank.proofs.Lowest.{depth-none, depth-some}
use Rattle.dd_rank.proofs.depths.depth_of.Goals as goal

pub overflow_sub-result : goal.overflow_sub-result
overflow_sub-result c =
    let k = depth-some c.args.suit c.holding.result c.holding-left.result c.below.result c.args.cards c.args.all c.in-Some.floor c.holding.ensures.ranks c.holding-left.ensures.ranks c.holding.ensures.real c.in-Some.ensures.0
    (λ q h two. c.in-Some.ensures.2 q h (let e = c.of.ensures in omega (arith, e, two))) c.below.ensures in
    let a = c.len.ensures.len in
    let b = c.len-in-Some.ensures.len in
    omega (arith, k, a, b)

pub returns-in-Some-clause-depth : goal.returns-in-Some-clause-depth
returns-in-Some-clause-depth c =
    let k = depth-some c.args.suit c.holding.result c.holding-left.result c.below.result c.args.cards c.args.all c.in-Some.floor c.holding.ensures.ranks c.holding-left.ensures.ranks c.holding.ensures.real c.in-Some.ensures.0
    (λ q h two. c.in-Some.ensures.2 q h (let e = c.of.ensures in omega (arith, e, two))) c.below.ensures in
    let a = c.len.ensures.len in
    let b = c.len-in-Some.ensures.len in
    omega (arith, k, a, b)

pub returns-in-None-clause-depth : goal.returns-in-None-clause-depth
returns-in-None-clause-depth c =
    depth-none c.args.suit c.holding.result c.args.cards c.args.all c.holding.ensures.ranks c.holding.ensures.real (λ q h. let k = c.in-None.ensures q h in let e = c.of.ensures in omega (arith, k, e))
