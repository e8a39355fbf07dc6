use Rattle.std.proofs.Common.{length}
use Rattle.dd_relative.specs.Gapped.{IsClosing}
use Rattle.dd_relative.specs.Relative.{led_by_north}
use Rattle.dd_relative.proofs.relative_start.closed_up.Given as goal

-- the gaps so far are closed, and the others have moved as the cards have
abbrev pub invariant-gaps : goal.invariant-gaps
invariant-gaps l =
    IsClosing (led_by_north l.fn.leader l.fn.second l.fn.third l.fn.fourth l.fn.strain) (led_by_north l.first_now l.second_now l.third_now l.fourth_now l.fn.strain) l.gaps_now

abbrev pub decreases-gaps : goal.decreases-gaps
decreases-gaps l = length l.gaps_now
