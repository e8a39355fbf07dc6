use Rattle.std.proofs.Common.{ap, ◌∙◌, arith}
use Rattle.std.proofs.lemmas.Bool.{lt-ltb}
use Rattle.dd_rank.specs.Depths.{depth_in}
use Rattle.dd_relative.proofs.Reached.{depth-reached, ranks-top, suit-13}
use Rattle.dd_relative.proofs.winning_ranks.WinningRanks.of_depths.Goals as goal

pub top_ranks-requires : goal.top_ranks-requires
top_ranks-requires c = λ u. let few = c.requires u in let most = suit-13 c.args.start.now c.as_trick_start-start.ensures.relative u in omega (arith, few, most)

pub invariant_of-result : goal.invariant_of-result
invariant_of-result c = ranks-top c.top_ranks.result c.args.depths c.top_ranks.ensures.cards c.top_ranks.ensures.real

pub returns-clause-depths : goal.returns-clause-depths
returns-clause-depths c = λ u.
    depth-reached c.args.start.now c.as_trick_start-start.ensures.relative u (depth_in c.args.depths u) c.top_ranks.result (c.requires u) (λ d suit real over.
    c.top_ranks.ensures.cards d real ∙ lt-ltb 14 _ (let e = ap (depth_in c.args.depths) suit in omega (arith, over, e)))
