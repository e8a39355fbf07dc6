use Rattle.std.proofs.Common.{◌∙◌, ap, sym, arith}
use Rattle.dd_cards.specs.Cards.{has_card}
use Rattle.dd_rank.proofs.TopRanks.{tops-cards, tops-valid}
use Rattle.dd_rank.proofs.depths.Depths.top_ranks.Goals as goal
use Rattle.dd_cards.proofs.CallerLemmas.{cards-real}

pub of_mask-requires : goal.of_mask-requires
of_mask-requires c = tops-valid c.args.self c.tops.result (omega arith) c.requires c.tops.ensures.tops

pub returns-clause-cards : goal.returns-clause-cards
returns-clause-cards c = λ d real. ap (λ cards. has_card cards d) c.of_mask.ensures ∙ tops-cards c.args.self c.tops.result c.requires c.tops.ensures.tops d real

pub returns-clause-real : goal.returns-clause-real
returns-clause-real c = λ d has. cards-real c.tops.result d (ap (λ cards. has_card cards d) (sym c.of_mask.ensures) ∙ has)
