use Rattle.std.proofs.Common.{◌≡◌, ◌≤◌, length, drop}
use Rattle.std.specs.Str.{bytes_eq}
use Rattle.dd_wire.proofs.usual_reader.is_same.Given as goal

-- What was compared so far, from the end, is the same.
abbrev pub invariant-loop-at : goal.invariant-loop-at
invariant-loop-at l = (l.same ≡ bytes_eq (drop l.at l.text) (drop l.at l.name)) × (l.at ≤ length l.name)

abbrev pub decreases-loop-at : goal.decreases-loop-at
decreases-loop-at l = l.at
