use Rattle.std.proofs.Common.{◌-◌, length}
use Rattle.dd_book.proofs.Chosen.{NoneBelow}
use Rattle.dd_book.proofs.jobs.Jobs.first_free.Given as goal

-- none of the owner's jobs below this place has a free part
abbrev pub invariant-loop-place : goal.invariant-loop-place
invariant-loop-place l = NoneBelow l.self-inside.list.items l.owner l.from

abbrev pub decreases-loop-place : goal.decreases-loop-place
decreases-loop-place l = length l.self-inside.list.items - l.from
