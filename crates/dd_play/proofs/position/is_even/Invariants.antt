use Rattle.std.proofs.Common.{◌≡◌, ℕ, ◌+◌, ◌<◌, length}
use Rattle.std.specs.Prelude.{nat_lt, if◌then◌else◌}
use Rattle.dd_cards.specs.Seats.{seat_after}
use Rattle.dd_cards.specs.Hands.{hand_of}
use Rattle.dd_play.proofs.position.is_even.Given as goal

abbrev pub invariant-loop-k : goal.invariant-loop-k
invariant-loop-k l = (k : ℕ) → k < l.k → length (hand_of l.hands (seat_after l.first k)) + (if nat_lt k l.played then 1 else 0) ≡ l.left
