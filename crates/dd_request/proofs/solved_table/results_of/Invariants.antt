use Rattle.std.proofs.Common.{◌≡◌, length, take}
use Rattle.std.specs.Prelude.{map}
use Rattle.dd_request.proofs.solved_table.results_of.Given as goal

-- The results so far.
abbrev pub invariant-loop-part : goal.invariant-loop-part
invariant-loop-part l = record {
  items : l.tricks.items ≡ map (λ part. part.tricks) (take l.part-index l.parts);
  many : length l.tricks.items ≡ l.part-index;
}
