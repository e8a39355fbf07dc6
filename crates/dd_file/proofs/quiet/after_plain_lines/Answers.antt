use Rattle.std.proofs.Common.{◌∙◌, sym}
use Rattle.dd_file.proofs.PlainLines.{lines-more, lines-none, lines-shorter}
use Rattle.dd_file.proofs.quiet.after_plain_lines.Goals as goal

pub loop-rest-init : goal.loop-rest-init
loop-rest-init c = lines-none c.args.text.now

pub loop-rest-smaller : goal.loop-rest-smaller
loop-rest-smaller c = lines-shorter c.loop-rest.rest.now c.after_plain-after.result.now c.after_plain-after.ensures c.in-len1-up-after.len_at_least

pub loop-rest-preserved : goal.loop-rest-preserved
loop-rest-preserved c =
    lines-more c.args.text.now c.loop-rest.rest.now c.after_plain-after.result.now c.loop-rest.invariant c.in-len1-up.len_at_least (sym c.begins_plain.ensures ∙ c.if-not-begins_plain.false)
    c.after_plain-after.ensures c.in-len1-up-after.len_at_least c.if-end-ne-LINE_FEED.false
