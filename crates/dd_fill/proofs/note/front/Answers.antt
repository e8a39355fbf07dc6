use Rattle.std.proofs.Common.{sym, arith}
use Rattle.std.proofs.lemmas.List.{length-take-le, take_all}
use Rattle.dd_fill.specs.declared.note.TheConstants.{SAID_BYTES}
use Rattle.dd_fill.proofs.note.front.Goals as goal

pub slice_bounds-result-end : goal.slice_bounds-result-end
slice_bounds-result-end c = sym (length-take-le SAID_BYTES c.args.value.now (omega arith))

pub returns-then-value-le-SAID_BYTES-clause-text : goal.returns-then-value-le-SAID_BYTES-clause-text
returns-then-value-le-SAID_BYTES-clause-text c = sym (take_all SAID_BYTES c.args.value.now (omega arith))

pub returns-else-value-le-SAID_BYTES-clause-short : goal.returns-else-value-le-SAID_BYTES-clause-short
returns-else-value-le-SAID_BYTES-clause-short c =
    let short = length-take-le SAID_BYTES c.args.value.now (omega arith) in
    omega arith
