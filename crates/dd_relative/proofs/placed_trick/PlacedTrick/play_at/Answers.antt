use Rattle.std.proofs.Common.{refl}
use Rattle.dd_relative.proofs.UnderWay.{IsPlayed, played-on}
use Rattle.dd_relative.proofs.placed_trick.PlacedTrick.play_at.Goals as goal
use Rattle.dd_relative.proofs.placed_trick.PlacedTrick.play_at.Goals.{After-with_place}

-- what the code makes of the trick
made : (c : After-with_place) → IsPlayed c.self.inside.start.now c.with_place.result c.args.played c.args.self.now c.args.card
made c =
    played-on c.self.inside.start.now c.self.inside.start.now c.args.self.now c.self.inside.trick c.with_place.result c.self.inside.played c.args.played c.args.card c.start-start.ensures.relative refl c.self.invariant.1 c.self.invariant.0 c.self.invariant.2
    c.self.view_is c.requires.turn c.requires.open c.requires.card c.with_place.ensures

pub invariant_of-result : goal.invariant_of-result
invariant_of-result c = (let p = made (goal.at.invariant_of-result c).After-with_place in (p.most, p.three, p.under))

pub returns-clause-next : goal.returns-clause-next
returns-clause-next c = (made (goal.at.returns-clause-next c).After-with_place).next

pub returns-clause-longer : goal.returns-clause-longer
returns-clause-longer c = (made (goal.at.returns-clause-longer c).After-with_place).longer
