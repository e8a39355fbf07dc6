use Rattle.std.proofs.Common.{length}
use Rattle.dd_file.specs.Quiet.{KeepsCounts, Takes}
use Rattle.dd_file.proofs.filler.Filler.take_quiet.Given as goal

-- the bytes so far were taken in, and nothing was counted
abbrev pub invariant-stretches : goal.invariant-stretches
invariant-stretches l = Takes l.fn.self l.self l.text l.rest × KeepsCounts l.fn.self l.self

abbrev pub decreases-stretches : goal.decreases-stretches
decreases-stretches l = length l.rest
