use Rattle.std.proofs.Common.{◌∙◌, rules}
use Rattle.dd_score.proofs.ListLemmas.{none-listed, more-listed}
use Rattle.dd_score.proofs.par_list.par_list.Goals as goal

pub loop-code-init : goal.loop-code-init
loop-code-init c = record {
  listed = c.new-contracts.ensures ∙ none-listed c.args.worths.now.tricks c.args.worths.now.vulnerable c.args.sought.order c.args.sought.score;
  short = search rules;
}

pub loop-code-preserved : goal.loop-code-preserved
loop-code-preserved c = record {
  listed = more-listed c.args.worths.now.tricks c.args.worths.now.vulnerable c.args.sought.order c.args.sought.score c.loop-code.code c.strain_of_code-strain.result
      c.least-theirs.result c.least-others.result c.loop-code.contracts.items c.add.new.contracts.items c.add-in-loop-code.new.contracts.items
      c.strain_of_code-strain.ensures c.loop-code.invariant.listed c.least-theirs.ensures c.least-others.ensures c.add.ensures.items
      c.add-in-loop-code.ensures.items;
  short = search rules;
}
