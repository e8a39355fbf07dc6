use Rattle.std.proofs.Common.{◌∙◌, sym}
use Rattle.dd_file.proofs.Steps.{after_blanks-blank, after_blanks-other, after_blanks-end}
use Rattle.dd_file.proofs.mark.after_blanks.Goals as goal

pub loop-rest-preserved : goal.loop-rest-preserved
loop-rest-preserved c =
    let blank = sym c.is_blank.ensures ∙ c.if-not-is_blank.false in
    sym (after_blanks-blank c.loop-rest.rest.now c.in-len1-up.len_at_least blank) ∙ c.loop-rest.invariant

pub returns-in_default : goal.returns-in_default
returns-in_default c = sym (after_blanks-end c.loop-rest.rest.now c.in_default.len_below) ∙ c.loop-rest.invariant

pub returns-then-not-is_blank : goal.returns-then-not-is_blank
returns-then-not-is_blank c =
    let other = sym c.is_blank.ensures ∙ c.if-not-is_blank.true in
    sym (after_blanks-other c.loop-rest.rest.now other) ∙ c.loop-rest.invariant
