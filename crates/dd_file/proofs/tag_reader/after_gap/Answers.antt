use Rattle.std.proofs.Common.{◌∙◌, sym}
use Rattle.dd_file.proofs.Steps.{after_gap-gap, after_gap-other, after_gap-end}
use Rattle.dd_file.proofs.tag_reader.after_gap.Goals as goal

pub loop-rest-preserved : goal.loop-rest-preserved
loop-rest-preserved c =
    let gap = sym c.is_gap.ensures ∙ c.if-not-is_gap.false in
    rw c.next-mode.ensures (sym (after_gap-gap c.loop-rest.mode c.loop-rest.rest.now c.in-len1-up.len_at_least gap) ∙ c.loop-rest.invariant)

pub returns-in_default : goal.returns-in_default
returns-in_default c = sym (after_gap-end c.loop-rest.mode c.loop-rest.rest.now c.in_default.len_below) ∙ c.loop-rest.invariant

pub returns-then-not-is_gap : goal.returns-then-not-is_gap
returns-then-not-is_gap c =
    let other = sym c.is_gap.ensures ∙ c.if-not-is_gap.true in
    sym (after_gap-other c.loop-rest.mode c.loop-rest.rest.now other) ∙ c.loop-rest.invariant
