use Rattle.dd_runs.proofs.MayCome.{calls-come, notes-told, sets-told}
use Rattle.dd_runs.proofs.law.steps_may_come.Goals as goal

pub returns-clause-calls : goal.returns-clause-calls
returns-clause-calls c = calls-come

pub returns-clause-notes : goal.returns-clause-notes
returns-clause-notes c = notes-told c.covered_positions.ensures.itself

pub returns-clause-sets : goal.returns-clause-sets
returns-clause-sets c = sets-told c.covered_positions.ensures.itself c.covered_positions.ensures.full
