use Rattle.std.proofs.Common.{sym, arith}
use Rattle.std.proofs.lemmas.List.{length-take-le, take_all}
use Rattle.dd_file.specs.declared.told_texts.TheConstants.{TOLD_BYTES}
use Rattle.dd_file.proofs.told_texts.told_front.Goals as goal

pub slice_bounds-result-end : goal.slice_bounds-result-end
slice_bounds-result-end c = sym (length-take-le TOLD_BYTES c.args.text.now (omega arith))

pub returns-then-text-le-TOLD_BYTES-clause-text : goal.returns-then-text-le-TOLD_BYTES-clause-text
returns-then-text-le-TOLD_BYTES-clause-text c = sym (take_all TOLD_BYTES c.args.text.now (omega arith))

pub returns-else-text-le-TOLD_BYTES-clause-short : goal.returns-else-text-le-TOLD_BYTES-clause-short
returns-else-text-le-TOLD_BYTES-clause-short c =
    let short = length-take-le TOLD_BYTES c.args.text.now (omega arith) in
    omega arith
