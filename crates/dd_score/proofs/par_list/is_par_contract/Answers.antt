use Rattle.std.proofs.Common.{rules}
use Rattle.dd_score.proofs.HeightLemmas.{par-above}
use Rattle.dd_score.proofs.par_list.is_par_contract.Goals as goal

pub returns-then-at-sought : goal.returns-then-at-sought
returns-then-at-sought c =
    par-above c.args.worths.now.tricks c.args.worths.now.vulnerable c.args.sought.order c.args.sought.score _ c.args.seat c.at.result c.height.result c.args.highest
    c.at.ensures (search rules) c.height.ensures c.requires.highest
