use Rattle.std.proofs.Common.{ap}
use Rattle.dd_file.specs.Passing.{ForeseerOf}
use Rattle.dd_file.proofs.Heard.{Hears-silent}
use Rattle.dd_file.proofs.engine.pass_by.Goals as goal

pub returns-clause-same_reference : goal.returns-clause-same_reference
returns-clause-same_reference g c = ap (λ (f : ForeseerOf g.A.Analyst.State). f.reference) (Hears-silent _ _ c.pass_ahead.ensures.notices c.pass_ahead.ensures.hears)

pub returns-clause-state : goal.returns-clause-state
returns-clause-state g c = ap (λ (f : ForeseerOf g.A.Analyst.State). f.heard) (Hears-silent _ _ c.pass_ahead.ensures.notices c.pass_ahead.ensures.hears)
