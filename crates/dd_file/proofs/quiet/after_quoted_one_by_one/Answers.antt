use Rattle.std.proofs.Common.{◌∙◌, sym}
use Rattle.dd_file.specs.declared.mode.Mode.TheVariants.{Quoted}
use Rattle.dd_file.proofs.Calm.{after_calm-calm, after_calm-other, after_calm-end}
use Rattle.dd_file.proofs.quiet.after_quoted_one_by_one.Goals as goal

pub loop-rest-preserved : goal.loop-rest-preserved
loop-rest-preserved c =
    let calm = sym c.is_calm_quoted.ensures ∙ c.if-not-is_calm_quoted.false in
    sym (after_calm-calm Quoted c.loop-rest.rest.now c.in-len1-up.len_at_least calm) ∙ c.loop-rest.invariant

pub returns-in_default : goal.returns-in_default
returns-in_default c = sym (after_calm-end Quoted c.loop-rest.rest.now c.in_default.len_below) ∙ c.loop-rest.invariant

pub returns-then-not-is_calm_quoted : goal.returns-then-not-is_calm_quoted
returns-then-not-is_calm_quoted c =
    let other = sym c.is_calm_quoted.ensures ∙ c.if-not-is_calm_quoted.true in
    sym (after_calm-other Quoted c.loop-rest.rest.now c.in-len1-up.len_at_least other) ∙ c.loop-rest.invariant
