use Rattle.dd_quick.proofs.Runs.{held-of, run-cards}
use Rattle.dd_quick.proofs.winners.own_run.Goals as goal

pub returns : goal.returns
returns c p seat suit are =
    let ranks = c.args.ranks.now in
    let held = held-of p seat suit ranks.own ranks.left ranks.partner ranks.right c.union-theirs.result c.union.result are.valid are.of_own are.of_left are.of_partner are.of_right c.union-theirs.ensures c.union.ensures in
    run-cards p seat suit ranks.own c.union.result held c.above_all.result c.above_all.ensures
