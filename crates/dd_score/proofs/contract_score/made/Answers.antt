use Rattle.std.proofs.Common.{arith}
use Rattle.dd_score.specs.Law77.{made_points}
use Rattle.dd_score.proofs.contract_score.made.Goals as goal

-- what each part ensures, put together
pub returns-clause-value : goal.returns-clause-value
unfolding made_points
returns-clause-value c =
    rw (c.for_game.ensures.value, c.multiplied-tricks.ensures.value, c.for_tricks.ensures.value, c.for_slam.ensures.value, c.for_insult.ensures.value, c.for_overtrick.ensures.value)
    (omega arith)
