use Rattle.std.proofs.Common.{◌∙◌, sym}
use Rattle.dd_file.specs.declared.mode.Mode.TheVariants.{Plain}
use Rattle.dd_file.proofs.Calm.{after_calm-calm, after_calm-other, after_calm-end}
use Rattle.dd_file.proofs.quiet.after_plain_one_by_one.Goals as goal

pub loop-rest-preserved : goal.loop-rest-preserved
loop-rest-preserved c =
    let calm = sym c.is_calm_plain.ensures ∙ c.if-not-is_calm_plain.false in
    sym (after_calm-calm Plain c.loop-rest.rest.now c.in-len1-up.len_at_least calm) ∙ c.loop-rest.invariant

pub returns-in_default : goal.returns-in_default
returns-in_default c = sym (after_calm-end Plain c.loop-rest.rest.now c.in_default.len_below) ∙ c.loop-rest.invariant

pub returns-then-not-is_calm_plain : goal.returns-then-not-is_calm_plain
returns-then-not-is_calm_plain c =
    let other = sym c.is_calm_plain.ensures ∙ c.if-not-is_calm_plain.true in
    sym (after_calm-other Plain c.loop-rest.rest.now c.in-len1-up.len_at_least other) ∙ c.loop-rest.invariant
