use Rattle.std.proofs.Common.{arith, ◌∙◌}
use Rattle.dd_relative.proofs.Heads.{heads-cards}
use Rattle.dd_relative.proofs.runs.run_heads.Goals as goal
use Rattle.dd_cards.proofs.CallerLemmas.{bit_of-and}

pub of_mask-requires : goal.of_mask-requires
of_mask-requires c = λ i h. c.mask-mask.ensures.mask i (bit_of-and _ _ i h)

pub returns : goal.returns
returns c = c.of_mask.ensures ∙ rw (← c.mask-mask.ensures.cards) (heads-cards c.mask-mask.result c.mask-mask.ensures.mask (omega arith))
