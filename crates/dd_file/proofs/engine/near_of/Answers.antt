use Rattle.std.proofs.Common.{sym, arith}
use Rattle.std.proofs.lemmas.List.{length-take-le, take_all}
use Rattle.dd_file.specs.declared.mark.TheConstants.{NEAR}
use Rattle.dd_file.proofs.engine.near_of.Goals as goal

pub slice_bounds-result-end : goal.slice_bounds-result-end
slice_bounds-result-end c = sym (length-take-le NEAR c.args.rest.now (omega arith))

pub returns-then-rest-le-NEAR : goal.returns-then-rest-le-NEAR
returns-then-rest-le-NEAR c = sym (take_all NEAR c.args.rest.now (omega arith))
