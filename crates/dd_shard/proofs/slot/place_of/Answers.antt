use Rattle.std.proofs.Common.{◌-◌, sym, arith, take, drop, Some}
use Rattle.std.proofs.lemmas.List.{length-take-le}
use Rattle.dd_rank.specs.Cover.{IsSameCover}
use Rattle.dd_shard.specs.Entries.{cover_of}
use Rattle.dd_shard.proofs.Places.{cut-at, known-at, none-above, pair-below, blank-below, all-walked}
use Rattle.dd_shard.proofs.slot.place_of.Goals as goal

pub loop-place-init : goal.loop-place-init
loop-place-init c = none-above (λ y. ¬ IsSameCover (cover_of y) c.args.cover.now) c.args.pairs.now

pub is_same-requires : goal.is_same-requires
is_same-requires c =
    sym (c.requires _ (known-at c.args.pairs.now c.loop-place.place c.in-Some.pair (omega arith) (omega arith) (rw (← c.in-Some.is) c.index-pairs-place.is)))

pub returns-then-is_same : goal.returns-then-is_same
returns-then-is_same c = (
  take (c.loop-place.place - 1) c.args.pairs.now,
  c.in-Some.pair,
  drop c.loop-place.place c.args.pairs.now,
  cut-at c.args.pairs.now c.loop-place.place (Some c.in-Some.pair) (omega arith) (omega arith) (rw (← c.in-Some.is) c.index-pairs-place.is),
  length-take-le (c.loop-place.place - 1) c.args.pairs.now (omega arith),
  c.loop-place.invariant,
  c.is_same.ensures.0 c.if-is_same.true,
)

pub loop-place-preserved-else-is_same : goal.loop-place-preserved-else-is_same
loop-place-preserved-else-is_same c =
    pair-below (λ y. ¬ IsSameCover (cover_of y) c.args.cover.now) c.args.pairs.now c.loop-place.place c.index-pairs-place.result c.in-Some.pair (omega arith) (omega arith) c.index-pairs-place.is c.in-Some.is
    c.loop-place.invariant (λ same. let yes = c.is_same.ensures.1 same in absurd (cc))

pub loop-place-preserved : goal.loop-place-preserved
loop-place-preserved c =
    blank-below (λ y. ¬ IsSameCover (cover_of y) c.args.cover.now) c.args.pairs.now c.loop-place.place c.index-pairs-place.result (omega arith) (omega arith) c.index-pairs-place.is c.in_default.is
    c.loop-place.invariant

pub returns : goal.returns
returns c = all-walked (λ y. ¬ IsSameCover (cover_of y) c.args.cover.now) c.args.pairs.now c.loop-place.place (omega arith) c.loop-place.invariant
