use Rattle.std.proofs.Common.{◌≡◌, ◌≤◌, ◌-◌, length, take, true}
use Rattle.std.specs.List.{list_all}
use Rattle.json.specs.Run.{is_plain}
use Rattle.dd_wire.proofs.usual_reader.plain_len.Given as goal

-- The bytes so far are plain.
abbrev pub invariant-loop-len : goal.invariant-loop-len
invariant-loop-len l = (list_all is_plain (take l.len l.text) ≡ true) × (l.len ≤ length l.text)

abbrev pub decreases-loop-len : goal.decreases-loop-len
decreases-loop-len l = length l.text - l.len
