use Rattle.std.proofs.Common.{◌-◌, arith, sym, subst, List}
use Rattle.dd_cards.specs.PlayingCard.{PlayingCard}
use Rattle.dd_cards.specs.Sides.{side_of, other_side}
use Rattle.dd_play.specs.Board.{tricks_left}
use Rattle.dd_play.specs.Reach.{reach, TakesBy}
use Rattle.dd_rank.specs.Depths.{depth_in}
use Rattle.dd_rank.proofs.CallerLemmas.{noted}
use Rattle.dd_search.proofs.cutoffs.note_answer.Goals as goal

pub note_by-requires-clause-holds : goal.note_by-requires-clause-holds
note_by-requires-clause-holds g c =
    let p = c.args.start.now in
    let i = c.interval_of-interval.result in
    let same = sym c.cards.ensures in
    let low = subst (λ (cards : List PlayingCard). TakesBy (reach cards) (side_of p.first) p i.lo) same c.interval_of-interval.ensures.theirs in
    let high = subst (λ (cards : List PlayingCard). TakesBy (reach cards) (other_side (side_of p.first)) p (tricks_left p - i.hi)) same c.interval_of-interval.ensures.others in
    noted c.cards.result (depth_in c.of_cards-depths.result) p i.lo i.hi c.of_cards-depths.ensures.real c.interval_of-interval.ensures.board (λ u. let e = c.of_cards-depths.ensures.depths u in omega (arith, e)) low high
