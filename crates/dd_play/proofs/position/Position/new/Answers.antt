use Rattle.std.proofs.Common.{rules, take, length, arith}
use Rattle.dd_play.proofs.InPlay.{all-in-play}
use Rattle.dd_play.proofs.position.Position.new.Goals as goal

pub invariant_of-result : goal.invariant_of-result
invariant_of-result c = (
  omega arith,
  c.three_places-places.ensures.length,
  search rules,
  all-in-play c.args.hands c.args.trick.now (take (length c.args.trick.now) c.three_places-places.result) c.in_hands.result c.of_trick.result c.union-in_play.result
      c.hand.ensures.hands.sets c.if-stands_twice.ensures.real c.in_hands.ensures c.of_trick.ensures c.three_places-places.ensures.cards c.union-in_play.ensures.cards,
)
