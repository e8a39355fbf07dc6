use Rattle.std.proofs.Common.{◌≡◌, ◌≤◌, ◌-◌, ℕ, length, min, true}
use Rattle.std.specs.Prelude.{filter, max, nat_le}
use Rattle.dd_cards.specs.Ranks.{has_rank}
use Rattle.dd_quick.specs.QuickTricks.{greatest}
use Rattle.dd_quick.specs.Seen.{IsRanks}
use Rattle.dd_quick.proofs.joint_trumps.most_taken.Given as goal

-- what was found and what is still to be asked, some of their ranks, are the greatest together
abbrev pub invariant-loop-rank : goal.invariant-loop-rank
invariant-loop-rank l = (max l.most (greatest (λ rank. min (length (filter (nat_le rank) l.fn.ours)) l.fn.longer - length (filter (nat_le rank) l.fn.theirs)) l.rest)
    ≡ greatest (λ rank. min (length (filter (nat_le rank) l.fn.ours)) l.fn.longer - length (filter (nat_le rank) l.fn.theirs)) l.fn.ours)
    × IsRanks l.rest × ((q : ℕ) → has_rank l.rest q ≡ true → has_rank l.fn.ours q ≡ true) × (l.most ≤ 13)

abbrev pub decreases-loop-rank : goal.decreases-loop-rank
decreases-loop-rank l = length l.rest
