use Rattle.std.proofs.Common.{◌≡◌, ◌∙◌, arith, get_or}
use Rattle.dd_play.specs.Board.{tricks_left}
use Rattle.dd_play.specs.Play.{after}
use Rattle.dd_play.proofs.CallerLemmas.{left-13}
use Rattle.dd_relative.proofs.Fourths.{IsFourth, fourth, next-board, tricks-with}
use Rattle.dd_relative.proofs.placed_trick.PlacedTrick.tricks_left_with.Goals as goal
use Rattle.dd_relative.proofs.placed_trick.PlacedTrick.tricks_left_with.Goals.{After-len}

-- the first place of the trick is read where there is none
full : (c : After-len) → IsFourth c.self.inside.start.now c.args.self.now (get_or c.self.inside.trick 0 c.args.card) (get_or c.self.inside.trick 1 c.args.card) (get_or c.self.inside.trick 2 c.args.card) c.args.card
full c =
    fourth c.self.inside.start.now c.args.self.now c.self.inside.trick c.self.inside.played c.args.card c.args.card c.args.card c.args.card
    c.hand.ensures.relative c.self.invariant.1 c.self.invariant.0 c.self.invariant.2 c.self.view_is c.requires.turn c.requires.card

tricks : (c : After-len) → c.len.result ≡ tricks_left (after c.args.self.now c.args.card)
tricks c = c.len.ensures ∙ tricks-with _ _ _ _ _ _ (full c) c.hand.result c.without_place.result c.hand.ensures.cards c.without_place.ensures

pub returns-clause-tricks : goal.returns-clause-tricks
returns-clause-tricks c = tricks (goal.at.returns-clause-tricks c).After-len

pub returns-clause-bound : goal.returns-clause-bound
returns-clause-bound c =
    let l = (goal.at.returns-clause-bound c).After-len in
    let e = tricks l in
    let most = left-13 (after c.args.self.now c.args.card) (next-board _ _ _ _ _ _ (full l)) in
    omega (arith, e, most)
