use Rattle.std.proofs.Common.{refl, length}
use Rattle.dd_request.proofs.Parts.{parts-more, part-at}
use Rattle.dd_request.proofs.solved_table.are_first_parts.Goals as goal

pub returns-then-not-is_part_of : goal.returns-then-not-is_part_of
returns-then-not-is_part_of c = (
  (λ impossible. cc),
  (λ parts. c.if-not-is_part_of.ensures.is.1 (part-at c.args.request.now c.args.parts.now (length c.args.parts.now) c.loop-place.place c.index-parts-place.result c.loop-place-test.true c.index-parts-place.is parts)),
)

pub loop-place-preserved : goal.loop-place-preserved
loop-place-preserved c = record {
  parts = parts-more c.args.request.now c.args.parts.now c.loop-place.place c.index-parts-place.result c.loop-place-test.true c.index-parts-place.is c.loop-place.invariant.parts (c.if-not-is_part_of.ensures.is.0 refl);
}
