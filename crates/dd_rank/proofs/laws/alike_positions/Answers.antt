use Rattle.dd_rank.proofs.AlikeLead.{alike-lead, is-alike-lead}
use Rattle.dd_rank.proofs.laws.alike_positions.Goals as goal

pub returns-clause-turned : goal.returns-clause-turned
returns-clause-turned c = alike-lead

pub returns-clause-unturned : goal.returns-clause-unturned
returns-clause-unturned c = is-alike-lead
