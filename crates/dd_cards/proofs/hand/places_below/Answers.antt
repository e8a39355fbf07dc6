use Rattle.std.proofs.Common.{arith}
use Rattle.dd_cards.proofs.Sequences.{first-spread, spread-on}
use Rattle.dd_cards.proofs.Heads.{free_of, headed-below}
use Rattle.dd_cards.proofs.hand.places_below.Goals as goal

pub returns : goal.returns
returns c =
    let tops = c.args.tops in
    let free = free_of c.args.others in
    let one = first-spread tops free in
    let two = spread-on tops free 1 _ _ _ _ one c.spread-below.ensures.below c.spread-below.ensures.clear in
    let four = spread-on tops free 2 _ _ _ _ two c.spread-below-2.ensures.below c.spread-below-2.ensures.clear in
    let eight = spread-on tops free 4 _ _ _ _ four c.spread-below-3.ensures.below c.spread-below-3.ensures.clear in
    let all = spread-on tops free 8 _ _ _ _ eight c.spread.ensures.below c.spread.ensures.clear in
    headed-below tops c.args.others _ c.requires (omega arith) all.reached
