use Rattle.std.proofs.Common.{◌≡◌, take}
use Rattle.std.specs.Prelude.{map}
use Rattle.std.specs.List.{range_with_len}
use Rattle.dd_request.specs.Results.{part_result}
use Rattle.dd_request.proofs.solved_table.are_first_parts.Given as goal

-- The parts so far are the request's, in order.
abbrev pub invariant-loop-place : goal.invariant-loop-place
invariant-loop-place l = record {
  parts : take l.place l.parts ≡ map (part_result l.request) (range_with_len 0 l.place);
}
