use Rattle.std.proofs.Common.{◌≡◌, sym, ◌∙◌, get_or}
use Rattle.dd_play.specs.Tricks.{winner_of}
use Rattle.dd_play.specs.Play.{trick_with}
use Rattle.dd_relative.proofs.Fourths.{IsFourth, first-is, fourth, winner-is}
use Rattle.dd_relative.proofs.placed_trick.PlacedTrick.winner_with.Goals as goal
use Rattle.dd_relative.proofs.placed_trick.PlacedTrick.winner_with.Goals.{After-winner}

full : (c : After-winner) → IsFourth c.self.inside.start.now c.args.self.now (get_or c.self.inside.trick 0 c.index-trick-0.result) (get_or c.self.inside.trick 1 c.index-trick-1.result) (get_or c.self.inside.trick 2 c.index-trick-2.result) c.args.card
full c =
    fourth c.self.inside.start.now c.args.self.now c.self.inside.trick c.self.inside.played c.index-trick-0.result c.index-trick-1.result c.index-trick-2.result c.args.card
    c.strain.ensures.relative c.self.invariant.1 c.self.invariant.0 c.self.invariant.2 c.self.view_is c.requires.turn c.requires.card

wins : (c : After-winner) → c.winner.result ≡ winner_of (trick_with c.args.self.now c.args.card) c.args.self.now.first c.args.self.now.strain
wins c =
    winner-is _ _ _ _ _ _ (full c) c.strain.result c.winner.result c.strain.ensures.strain c.winner.ensures

pub returns-clause-wins : goal.returns-clause-wins
returns-clause-wins c = wins (goal.at.returns-clause-wins c).After-winner

pub returns-clause-first : goal.returns-clause-first
returns-clause-first c =
    let w = (goal.at.returns-clause-first c).After-winner in
    wins w ∙ sym (first-is _ _ _ _ _ _ (full w))
