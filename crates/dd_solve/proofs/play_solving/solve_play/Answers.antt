use Rattle.std.proofs.Common.{◌≡◌, ◌+◌, ◌-◌, ap, ◌∙◌, arith, length}
use Rattle.std.proofs.lemmas.List.FromFn.{length-map-range_with_len}
use Rattle.dd_request.specs.Plays.{tricks_after}
use Rattle.dd_solve.proofs.Numbers.{trace-whole}
use Rattle.dd_solve.proofs.play_solving.solve_play.Goals as goal

pub insert-requires : goal.insert-requires
insert-requires g c =
    let play = c.args.request in
    let len = ap length c.cards.invariant.trace ∙ length-map-range_with_len (tricks_after play) c.cards.count (length play.cards + 1 - c.cards.count) in
    let most = c.cards-count.ensures.most in
    let same = ap length c.cards-count.ensures.value in
    let within = c.cards.invariant.within in
    let some = c.cards-test.true in
    (omega arith, (omega arith, omega (arith, len, most, same, within, some)))

pub of-requires-2 : goal.of-requires-2
of-requires-2 g c =
    let none : c.cards.count ≡ 0 = (let done = c.cards-test.false in omega (arith, done)) in
    c.of.ensures ∙ trace-whole c.args.request c.cards.count _ c.cards.trace.items c.cards.invariant.trace none (omega (arith, none))
