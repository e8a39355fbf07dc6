use Rattle.std.proofs.Common.{◌∙◌, refl, sym}
use Rattle.dd_file.proofs.Staying.{KeepsCounts-then, Takes-byte, Takes-none, Takes-shorter, Takes-then}
use Rattle.dd_file.proofs.filler.Filler.take_quiet.Goals as goal

pub stretches-init : goal.stretches-init
stretches-init c = (Takes-none _ _, record { number = refl; board = refl; unknown = refl; passed = refl })

pub stretches-preserved : goal.stretches-preserved
stretches-preserved c =
    let taken = c.take_byte.ensures in (
      Takes-then _ _ _ _ _ _ c.stretches.invariant.0 (Takes-then _ _ _ _ _ _ c.take_stretch-after.ensures.takes
          (Takes-byte _ _ c.take_stretch-after.result.now c.in-len1-up.len_at_least (sym c.is_alone.ensures ∙ c.if-not-is_alone.false) taken.state taken.mode taken.left taken.wanted)),
      KeepsCounts-then _ _ _ (KeepsCounts-then _ _ _ c.stretches.invariant.1 c.take_stretch-after.ensures.counts) taken.counts,
    )

pub stretches-smaller : goal.stretches-smaller
stretches-smaller c = Takes-shorter _ _ _ c.take_stretch-after.result.now c.take_stretch-after.ensures.takes c.in-len1-up.len_at_least

pub returns-in_default-clause-takes : goal.returns-in_default-clause-takes
returns-in_default-clause-takes c = Takes-then _ _ _ _ _ _ c.stretches.invariant.0 c.take_stretch-after.ensures.takes

pub returns-in_default-clause-counts : goal.returns-in_default-clause-counts
returns-in_default-clause-counts c = KeepsCounts-then _ _ _ c.stretches.invariant.1 c.take_stretch-after.ensures.counts

pub returns-then-not-is_alone-clause-takes : goal.returns-then-not-is_alone-clause-takes
returns-then-not-is_alone-clause-takes c = Takes-then _ _ _ _ _ _ c.stretches.invariant.0 c.take_stretch-after.ensures.takes

pub returns-then-not-is_alone-clause-counts : goal.returns-then-not-is_alone-clause-counts
returns-then-not-is_alone-clause-counts c = KeepsCounts-then _ _ _ c.stretches.invariant.1 c.take_stretch-after.ensures.counts
