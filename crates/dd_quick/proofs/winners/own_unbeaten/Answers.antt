use Rattle.dd_quick.proofs.Runs.{unbeaten-cards}
use Rattle.dd_quick.proofs.winners.own_unbeaten.Goals as goal

pub returns : goal.returns
returns c p seat suit are =
    let ranks = c.args.ranks.now in
    unbeaten-cards p seat suit ranks.own ranks.left ranks.right c.union.result c.above_all.result are.valid are.of_own are.of_left are.of_right c.union.ensures c.above_all.ensures
