use Rattle.std.proofs.Common.{◌≡◌, ◌+◌, ◌*◌, ◌≤◌, ◌++◌, length, map, take}
use Rattle.std.specs.Prelude.{codes}
use Rattle.std.specs.List.{join_with_byte, range_with_len}
use Rattle.dd_wire.specs.Replies.{list_text, of_strain}
use Rattle.dd_wire.proofs.reply.push_table.Given as goal

abbrev pub invariant-loop-strain : goal.invariant-loop-strain
invariant-loop-strain l = record {
  written : l.text.bytes ≡ (l.fn.text.bytes ++ codes "\"table\":[") ++ join_with_byte 44 (map (λ strain. list_text (of_strain l.results strain)) (take l.strain (range_with_len 0 5)));
  short : length l.text.bytes ≤ length l.fn.text.bytes + 9 + 27 * l.strain;
}
