use Rattle.std.proofs.Common.{◌≤◌, ◌-◌, length, min}
use Rattle.std.specs.Prelude.{filter, nat_le}
use Rattle.dd_quick.specs.QuickTricks.{greatest}
use Rattle.dd_quick.proofs.joint_trumps.lowest.Given as goal

-- where so many are taken at all, they are from one of the ranks that are still to be asked
abbrev pub invariant-loop-rank : goal.invariant-loop-rank
invariant-loop-rank l = l.fn.tricks ≤ greatest (λ rank. min (length (filter (nat_le rank) l.fn.ours)) l.fn.longer - length (filter (nat_le rank) l.fn.theirs)) l.fn.ours
    → l.fn.tricks ≤ greatest (λ rank. min (length (filter (nat_le rank) l.fn.ours)) l.fn.longer - length (filter (nat_le rank) l.fn.theirs)) l.rest

abbrev pub decreases-loop-rank : goal.decreases-loop-rank
decreases-loop-rank l = length l.rest
