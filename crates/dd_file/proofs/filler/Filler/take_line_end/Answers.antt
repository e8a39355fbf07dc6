use Rattle.dd_file.proofs.Staying.{KeepsCounts-then, Takes-then}
use Rattle.dd_file.proofs.filler.Filler.take_line_end.Goals as goal

pub returns-clause-takes : goal.returns-clause-takes
returns-clause-takes c = Takes-then _ _ _ _ _ _ c.take_next-rest.ensures.takes c.take_next.ensures.takes

pub returns-clause-counts : goal.returns-clause-counts
returns-clause-counts c = KeepsCounts-then _ _ _ c.take_next-rest.ensures.counts c.take_next.ensures.counts
