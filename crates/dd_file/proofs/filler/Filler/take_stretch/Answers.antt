use Rattle.dd_file.proofs.Staying.{KeepsCounts-then, Takes-then}
use Rattle.dd_file.proofs.filler.Filler.take_stretch.Goals as goal

pub returns-clause-takes : goal.returns-clause-takes
returns-clause-takes c = Takes-then _ _ _ _ _ _ c.take_lines-rest.ensures.takes c.take_calm.ensures.takes

pub returns-clause-counts : goal.returns-clause-counts
returns-clause-counts c = KeepsCounts-then _ _ _ c.take_lines-rest.ensures.counts c.take_calm.ensures.counts
