use Rattle.std.proofs.Common.{◌∙◌, sym}
use Rattle.dd_file.specs.declared.mode.Mode.TheVariants.{Escaped}
use Rattle.dd_file.proofs.Calm.{after_calm-calm, after_calm-other, after_calm-end, lines-alike}
use Rattle.dd_file.proofs.quiet.after_line_one_by_one.Goals as goal

pub loop-rest-preserved : goal.loop-rest-preserved
loop-rest-preserved c =
    let calm = sym c.is_calm_line.ensures ∙ c.if-not-is_calm_line.false in
    sym (after_calm-calm Escaped c.loop-rest.rest.now c.in-len1-up.len_at_least calm) ∙ c.loop-rest.invariant

pub returns-in_default-clause-escaped : goal.returns-in_default-clause-escaped
returns-in_default-clause-escaped c = sym (after_calm-end Escaped c.loop-rest.rest.now c.in_default.len_below) ∙ c.loop-rest.invariant

pub returns-in_default-clause-remark : goal.returns-in_default-clause-remark
returns-in_default-clause-remark c = sym (after_calm-end Escaped c.loop-rest.rest.now c.in_default.len_below) ∙ c.loop-rest.invariant ∙ sym (lines-alike c.args.text.now)

pub returns-then-not-is_calm_line-clause-escaped : goal.returns-then-not-is_calm_line-clause-escaped
returns-then-not-is_calm_line-clause-escaped c =
    let other = sym c.is_calm_line.ensures ∙ c.if-not-is_calm_line.true in
    sym (after_calm-other Escaped c.loop-rest.rest.now c.in-len1-up.len_at_least other) ∙ c.loop-rest.invariant

pub returns-then-not-is_calm_line-clause-remark : goal.returns-then-not-is_calm_line-clause-remark
returns-then-not-is_calm_line-clause-remark c =
    let other = sym c.is_calm_line.ensures ∙ c.if-not-is_calm_line.true in
    sym (after_calm-other Escaped c.loop-rest.rest.now c.in-len1-up.len_at_least other) ∙ c.loop-rest.invariant ∙ sym (lines-alike c.args.text.now)
