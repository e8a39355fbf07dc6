use Rattle.std.proofs.Common.{◌∙◌, sym}
use Rattle.dd_file.proofs.Steps.{after_name-name, after_name-other, after_name-end}
use Rattle.dd_file.proofs.tag_reader.after_name_one_by_one.Goals as goal

pub loop-rest-preserved : goal.loop-rest-preserved
loop-rest-preserved c =
    let blank = sym c.is_name.ensures ∙ c.if-not-is_name.false in
    sym (after_name-name c.loop-rest.rest.now c.in-len1-up.len_at_least blank) ∙ c.loop-rest.invariant

pub returns-in_default : goal.returns-in_default
returns-in_default c = sym (after_name-end c.loop-rest.rest.now c.in_default.len_below) ∙ c.loop-rest.invariant

pub returns-then-not-is_name : goal.returns-then-not-is_name
returns-then-not-is_name c =
    let other = sym c.is_name.ensures ∙ c.if-not-is_name.true in
    sym (after_name-other c.loop-rest.rest.now other) ∙ c.loop-rest.invariant
