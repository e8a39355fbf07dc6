use Rattle.std.proofs.Common.{arith}
use Rattle.dd_play.proofs.CallerLemmas.{left-13}
use Rattle.dd_search.proofs.Known.{value-within, value-known, value-all}
use Rattle.dd_search.proofs.known_tricks.value_at_least.Goals as goal

pub returns-then-not-more-clause-value : goal.returns-then-not-more-clause-value
returns-then-not-more-clause-value g c =
    value-known c.args.position.now c.tricks.tricks c.in_ok-more.more c.tricks.invariant.known c.in_ok-more.ensures.answer c.if-not-more.true

pub returns-then-not-more-clause-bound : goal.returns-then-not-more-clause-bound
returns-then-not-more-clause-bound g c =
    let within = value-within c.args.position.now c.tricks_left-left.ensures.board in
    let few = left-13 c.args.position.now c.tricks_left-left.ensures.board in
    let known = c.tricks.invariant.known in
    omega (arith, within, few, known)

pub returns-clause-value : goal.returns-clause-value
returns-clause-value g c =
    value-all c.args.position.now c.tricks.tricks c.tricks_left-left.result c.tricks_left-left.ensures.board c.tricks.invariant.known c.tricks_left-left.ensures.tricks c.tricks-test.false

pub returns-clause-bound : goal.returns-clause-bound
returns-clause-bound g c =
    let within = value-within c.args.position.now c.tricks_left-left.ensures.board in
    let few = left-13 c.args.position.now c.tricks_left-left.ensures.board in
    let known = c.tricks.invariant.known in
    omega (arith, within, few, known)
