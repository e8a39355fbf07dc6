use Rattle.std.proofs.Common.{◌≡◌, ◌≤◌, length}
use Rattle.std.specs.List.{find}
use Rattle.dd_book.specs.Next.{from_last, next_of_play, waits_at}
use Rattle.dd_book.proofs.parts.Parts.next_of_play.Given as goal

-- no part from this place on waits
abbrev pub invariant-loop-place : goal.invariant-loop-place
invariant-loop-place l =
    (l.place ≤ length l.self) × (find (waits_at l.self) (from_last l.place) ≡ next_of_play l.self)

abbrev pub decreases-loop-place : goal.decreases-loop-place
decreases-loop-place l = l.place
