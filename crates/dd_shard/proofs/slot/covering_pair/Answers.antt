use Rattle.std.proofs.Common.{sym, arith, take, drop, Some}
use Rattle.dd_shard.specs.Entries.{IsCoverOf}
use Rattle.dd_shard.proofs.Places.{cut-at, known-at, none-above, pair-below, blank-below, all-walked}
use Rattle.dd_shard.proofs.slot.covering_pair.Goals as goal

pub loop-place-init : goal.loop-place-init
loop-place-init c = λ q _ _ _. none-above (λ x. ¬ IsCoverOf x q) c.args.pairs.now

pub covers-requires : goal.covers-requires
covers-requires c =
    sym (c.requires _ (known-at c.args.pairs.now c.loop-place.place c.in-Some.pair (omega arith) (omega arith) (rw (← c.in-Some.is) c.index-pairs-place.is)))

pub returns-then-covers : goal.returns-then-covers
returns-then-covers c = λ q board start same. (
  take _ c.args.pairs.now,
  drop c.loop-place.place c.args.pairs.now,
  cut-at c.args.pairs.now c.loop-place.place (Some c.in-Some.pair) (omega arith) (omega arith) (rw (← c.in-Some.is) c.index-pairs-place.is),
  c.loop-place.invariant q board start same,
  (c.covers.ensures q board start same).0 c.if-covers.true,
)

pub loop-place-preserved-else-covers : goal.loop-place-preserved-else-covers
loop-place-preserved-else-covers c = λ q board start same.
    pair-below (λ x. ¬ IsCoverOf x q) c.args.pairs.now c.loop-place.place c.index-pairs-place.result c.in-Some.pair (omega arith) (omega arith) c.index-pairs-place.is c.in-Some.is
    (c.loop-place.invariant q board start same) (λ covers. let yes = (c.covers.ensures q board start same).1 covers in absurd (cc))

pub loop-place-preserved : goal.loop-place-preserved
loop-place-preserved c = λ q board start same.
    blank-below (λ x. ¬ IsCoverOf x q) c.args.pairs.now c.loop-place.place c.index-pairs-place.result (omega arith) (omega arith) c.index-pairs-place.is c.in_default.is
    (c.loop-place.invariant q board start same)

pub returns : goal.returns
returns c = λ q board start same. all-walked (λ x. ¬ IsCoverOf x q) c.args.pairs.now c.loop-place.place (omega arith) (c.loop-place.invariant q board start same)
