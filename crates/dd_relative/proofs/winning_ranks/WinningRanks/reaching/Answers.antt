use Rattle.std.proofs.Common.{◌∙◌, sym, ap, subst, arith, List}
use Rattle.dd_cards.specs.PlayingCard.{PlayingCard}
use Rattle.dd_cards.specs.Cards.{has_card}
use Rattle.dd_relative.specs.WinningRanks.{AreTop}
use Rattle.dd_relative.proofs.Reaches.{guard-over, upward-has, upward-mask, upward-top}
use Rattle.dd_relative.proofs.winning_ranks.WinningRanks.reaching.Goals as goal

pub overflow_sub-mask : goal.overflow_sub-mask
overflow_sub-mask c = guard-over c.mask-mask.result c.mask-mask.ensures.mask (omega arith)

pub of_mask-requires : goal.of_mask-requires
of_mask-requires c = upward-mask c.mask-mask.result

pub invariant_of-result : goal.invariant_of-result
invariant_of-result c = subst (λ (l : List PlayingCard). AreTop l) (sym c.of_mask.ensures) (upward-top c.mask-mask.result c.mask-mask.ensures.mask (omega arith))

pub returns : goal.returns
returns c = λ d h.
    ap (λ l. has_card l d) c.of_mask.ensures ∙ upward-has c.mask-mask.result d c.mask-mask.ensures.mask (omega arith) (ap (λ l. has_card l d) c.mask-mask.ensures.cards ∙ h)
