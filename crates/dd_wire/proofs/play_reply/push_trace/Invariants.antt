use Rattle.std.proofs.Common.{◌≡◌, ◌+◌, ◌*◌, ◌≤◌, ◌++◌, length, map, take}
use Rattle.std.specs.Prelude.{codes, decimal}
use Rattle.std.specs.List.{join_with_byte}
use Rattle.dd_wire.proofs.play_reply.push_trace.Given as goal

abbrev pub invariant-loop-place : goal.invariant-loop-place
invariant-loop-place l = record {
  written : l.text.bytes ≡ (l.fn.text.bytes ++ codes "\"tricks\":[") ++ join_with_byte 44 (map decimal (take l.place l.trace));
  short : length l.text.bytes ≤ length l.fn.text.bytes + 10 + 6 * l.place;
}
