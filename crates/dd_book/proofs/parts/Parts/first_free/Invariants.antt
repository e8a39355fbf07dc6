use Rattle.std.proofs.Common.{◌≡◌, ◌≤◌, ◌-◌, length}
use Rattle.std.specs.List.{find, range_with_len}
use Rattle.dd_book.specs.Next.{is_free}
use Rattle.dd_book.proofs.parts.Parts.first_free.Given as goal

-- no part before this place is free
abbrev pub invariant-loop-place : goal.invariant-loop-place
invariant-loop-place l =
    (l.place ≤ length l.self)
    × (find (is_free l.self) (range_with_len l.place (length l.self - l.place))
    ≡ find (is_free l.self) (range_with_len 0 (length l.self)))

abbrev pub decreases-loop-place : goal.decreases-loop-place
decreases-loop-place l = length l.self - l.place
