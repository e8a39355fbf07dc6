use Rattle.std.proofs.Common.{◌≡◌, ◌+◌, ◌*◌, ◌≤◌, ◌++◌, length, map, take}
use Rattle.std.specs.List.{join_with_byte}
use Rattle.dd_wire.specs.ParReplies.{contract_text}
use Rattle.dd_wire.proofs.par_reply.push_contracts.Given as goal

abbrev pub invariant-loop-place : goal.invariant-loop-place
invariant-loop-place l = record {
  written : l.text.bytes ≡ l.fn.text.bytes ++ join_with_byte 44 (map contract_text (take l.place l.contracts));
  short : length l.text.bytes ≤ length l.fn.text.bytes + 65 * l.place;
}
