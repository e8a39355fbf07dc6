use Rattle.std.proofs.Common.{length, ◌-◌, ◌≡◌, [], ◌≤◌, take, drop}
use Rattle.dd_streams.specs.Tags.{named_in, no_tags}
use Rattle.dd_streams.proofs.tags.named_in.Given as goal

-- what is still to come, from the name that has begun, names what the whole text does
abbrev pub invariant-loop-length : goal.invariant-loop-length
invariant-loop-length l = (l.length ≤ length l.rest) × (named_in no_tags [] l.fn.text ≡ named_in l.wanted (take l.length l.rest) (drop l.length l.rest))

abbrev pub decreases-loop-length : goal.decreases-loop-length
decreases-loop-length l = length l.rest - l.length
