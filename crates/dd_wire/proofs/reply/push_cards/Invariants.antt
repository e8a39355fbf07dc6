use Rattle.std.proofs.Common.{◌≡◌, ◌+◌, ◌*◌, ◌≤◌, ◌++◌, length, map, take}
use Rattle.std.specs.Prelude.{codes}
use Rattle.std.specs.List.{join_with_byte}
use Rattle.dd_wire.specs.Replies.{class_text}
use Rattle.dd_wire.proofs.reply.push_cards.Given as goal

abbrev pub invariant-loop-place : goal.invariant-loop-place
invariant-loop-place l = record {
  written : l.text.bytes ≡ (l.fn.text.bytes ++ codes "\"cards\":[") ++ join_with_byte 44 (map class_text (take l.place l.answer));
  short : length l.text.bytes ≤ length l.fn.text.bytes + 9 + 57 * l.place;
}
