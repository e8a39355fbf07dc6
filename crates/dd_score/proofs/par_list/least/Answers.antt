use Rattle.std.proofs.Common.{◌≡◌, ◌-◌, sym, ap, ◌∙◌, arith, rules}
use Rattle.dd_score.specs.ParContracts.{least_from}
use Rattle.dd_score.proofs.ListLemmas.{least-found, least-on, least-none}
use Rattle.dd_score.proofs.par_list.least.Goals as goal

pub returns-then-is_some : goal.returns-then-is_some
returns-then-is_some c =
    least-found c.args.worths.now.tricks c.args.worths.now.vulnerable c.args.sought.order c.args.sought.score c.args.side c.args.strain c.loop-level.level
    c.at_level-found.result (omega arith) c.at_level-found.ensures (search rules) c.loop-level.invariant

pub loop-level-preserved : goal.loop-level-preserved
loop-level-preserved c =
    least-on c.args.worths.now.tricks c.args.worths.now.vulnerable c.args.sought.order c.args.sought.score c.args.side c.args.strain c.loop-level.level
    c.at_level-found.result (omega arith) c.at_level-found.ensures (search rules) c.loop-level.invariant

pub returns : goal.returns
returns c =
    let at : c.loop-level.level ≡ 8 = omega arith in
    sym (c.loop-level.invariant
    ∙ ap (λ n. least_from c.args.worths.now.tricks c.args.worths.now.vulnerable c.args.sought.order c.args.sought.score c.args.side c.args.strain (8 - n) n) at
    ∙ least-none c.args.worths.now.tricks c.args.worths.now.vulnerable c.args.sought.order c.args.sought.score c.args.side c.args.strain)
